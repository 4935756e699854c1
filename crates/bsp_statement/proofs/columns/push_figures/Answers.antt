use Rattle.std.proofs.Common.{string_bytes}
use Rattle.bsp_statement.specs.Texts.{columns}
use Rattle.bsp_statement.proofs.PieceLemmas.{pieces4}
use Rattle.bsp_statement.proofs.columns.push_figures.Goals as goal

pub returns : goal.returns
unfolding columns
returns c =
    pieces4 (string_bytes c.args.out.now) _ _ _ _ (string_bytes c.push_left.new.out) (string_bytes c.push_count.new.out) (string_bytes c.push_sums.new.out) _
    c.in_ok-push_left.ensures c.in_ok-push_count.ensures c.in_ok-push_sums.ensures c.in_ok-push_str.ensures.bytes
