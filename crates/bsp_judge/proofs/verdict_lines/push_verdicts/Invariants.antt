use Rattle.std.proofs.Common.{◌≡◌, ◌++◌, take}
use Rattle.bsp_judge.specs.Judged.{verdict_lines}
use Rattle.bsp_judge.proofs.verdict_lines.push_verdicts.Given as goal

abbrev pub invariant-loop-index : goal.invariant-loop-index
invariant-loop-index l = l.text.items ≡ l.initial.text.items ++ verdict_lines 1 (take l.index l.verdicts)
