use Rattle.std.proofs.Common.{ap, rules, ◌++◌, ◌∙◌}
use Rattle.std.specs.Prelude.{ℤ}
use Rattle.std.proofs.lemmas.Int.{to_z-of_z}
use mir.Syntax.{w128}
use mir.Val.{SFits}
use Rattle.bsp_judge.specs.Judged.{net_line, verdict_lines}
use Rattle.bsp_judge.proofs.judging.say.Goals as goal

pub returns-clause-said : goal.returns-clause-said
returns-clause-said c =
    let fits : SFits w128 c.args.net = search rules in (
      c.in-Ok.ensures ∙ ap (λ (n : ℤ). verdict_lines 1 c.args.verdicts.now ++ net_line n) (to_z-of_z w128 c.args.net fits),
      c.are_taken-is_taken.ensures,
    )
