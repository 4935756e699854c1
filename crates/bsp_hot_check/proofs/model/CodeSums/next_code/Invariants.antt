use Rattle.std.proofs.Common.{◌≡◌, drop}
use Rattle.std.specs.List.{find}
use Rattle.bsp_hot_check.specs.Standings.{stands_in}
use Rattle.bsp_hot_check.proofs.model.CodeSums.next_code.Given as goal

abbrev pub invariant-loop-code : goal.invariant-loop-code
invariant-loop-code l = find (stands_in l.self) (drop l.code-index l.codes) ≡ find (stands_in l.self) l.codes
