use Rattle.std.proofs.Common.{refl, ◌∙◌}
use Rattle.std.specs.Int.{w128}
use Rattle.std.proofs.lemmas.Int.{to_z-of_z}
use Rattle.bsp_check.proofs.ret_report.total_line.Goals as goal

pub returns : goal.returns
returns c =
    c.in_ok-format.ensures.ok ∙ rw (c.in_ok-money.ensures, to_z-of_z w128 c.args.sum c.ranges.sum) refl
