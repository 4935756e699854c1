use Rattle.std.proofs.Common.{arith, ◌∙◌}
use Rattle.std.proofs.lemmas.Bool.{ne_eqb}
use Rattle.bsp_fields.specs.Columns.{identifier}
use Rattle.bsp_ret.proofs.SaidLemmas.{trailer_says}
use Rattle.bsp_ret.proofs.judge.later_record.Goals as goal

pub returns-in_default : goal.returns-in_default
returns-in_default c =
    let name = identifier c.args.line.now in
    c.trailer_record.ensures ∙ trailer_says c.args.at c.args.line.now (ne_eqb name 50 (omega arith)) (ne_eqb name 51 (omega arith)) (ne_eqb name 53 (omega arith)) (ne_eqb name 56 (omega arith))
