use Rattle.std.proofs.Common.{◌≡◌, ap, subst, sym}
use Rattle.std.specs.Prelude.{IsUtf8, codes, pos}
use Rattle.toml.specs.Data.{integer, no_members, string}
use Rattle.toml.specs.View.{members_view, table_view}
use Rattle.toml.proofs.Views.{view-Table}
use Rattle.bsp_calendar.specs.PlanDocument.{tax_of}
use Rattle.bsp_plan_trial.specs.Texts.{IsValueOf, put}
use Rattle.bsp_plan_trial.proofs.TextLemmas.{day_utf8, tax_is}
use Rattle.bsp_plan_trial.proofs.entry.CommissionTaxEntry.value.Goals as goal

pub put_text-requires : goal.put_text-requires
put_text-requires c = subst IsUtf8 (sym c.write_text.ensures.text) (day_utf8 _)

pub returns : goal.returns
returns c = λ within.
    let it = c.args.self.now in
    let empty : table_view c.new-table.result ≡ no_members = ap members_view c.new-table.ensures.empty in
    let first : table_view c.put_text.new.table ≡ put (codes "from") (string c.write_text.result) (table_view c.new-table.result) = c.in_ok-put_text.ensures in
    let last : table_view c.put_number.new.table ≡ put (codes "hundredths") (integer (pos it.hundredths)) (table_view c.put_text.new.table) = c.in_ok-put_number.ensures in
    subst (IsValueOf tax_of 1 it) (sym (view-Table c.put_number.new.table)) (tax_is it c.write_text.result (table_view c.put_number.new.table) c.write_text.ensures.reads_back within (rw (first, empty) at last))
