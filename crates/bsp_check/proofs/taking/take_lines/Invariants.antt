use Rattle.std.proofs.Common.{length}
use Rattle.bsp_check.specs.Judging.{Takes}
use Rattle.bsp_check.proofs.taking.take_lines.Given as goal

abbrev pub invariant-loop-rest : goal.invariant-loop-rest
invariant-loop-rest g l = record { takes : Takes g.J.Judge.HasTaken l.ended l.fn.judge l.judge l.text l.rest }

abbrev pub decreases-loop-rest : goal.decreases-loop-rest
decreases-loop-rest g l = length l.rest
