use Rattle.std.proofs.Common.{◌+◌, ◌≤◌, length}
use Rattle.bsp_ret.specs.Standings.{FitsIn}
use Rattle.bsp_explain.proofs.FaultLemmas.{IsJudgedTo}
use Rattle.bsp_explain.proofs.explanation.judge_lines.Given as goal

abbrev pub invariant-loop-rest : goal.invariant-loop-rest
invariant-loop-rest l = record {
  judged : IsJudgedTo l.at l.text l.rest;
  fits : FitsIn l.at (length l.text);
  room : l.at.records + length l.rest ≤ length l.text;
}

abbrev pub decreases-loop-rest : goal.decreases-loop-rest
decreases-loop-rest l = length l.rest
