use Rattle.std.proofs.Common.{◌≡◌, arith}
use Rattle.std.specs.Prelude.{codes, pos}
use Rattle.toml.specs.Data.{integer, string}
use Rattle.toml.specs.View.{table_view}
use Rattle.bsp_plan_trial.specs.Texts.{put}
use Rattle.bsp_plan_trial.proofs.TextLemmas.{currency_utf8}
use Rattle.bsp_plan_trial.proofs.writing.put_terms.Goals as goal

pub put_text-requires : goal.put_text-requires
put_text-requires c = currency_utf8 c.letters.result c.args.terms.now.currency c.letters.ensures.reads_back

pub returns : goal.returns
returns c =
    let first : table_view c.put_text.new.table ≡ put (codes "currency") (string c.letters.result) (table_view c.args.table.now) = c.in_ok-put_text.ensures in
    let second : table_view c.put_number.new.table ≡ put (codes "review_days") (integer (pos c.args.terms.now.review_days)) (table_view c.put_text.new.table) = c.in_ok-put_number.ensures in
    record {
      currency = string c.letters.result;
      is = record { reads = c.letters.ensures.reads_back; flat = omega arith };
      new_is = rw (second, first) at c.in_ok-put_number-2.ensures;
    }
