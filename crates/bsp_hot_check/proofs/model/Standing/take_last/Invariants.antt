use Rattle.std.proofs.Common.{◌≤◌, ◌+◌, length}
use Rattle.bsp_hot_check.specs.Standings.{IsSmall}
use Rattle.bsp_hot_check.specs.Pieces.{Passes}
use Rattle.bsp_hot_check.proofs.model.Standing.take_last.Given as goal

abbrev pub invariant-loop-rest : goal.invariant-loop-rest
invariant-loop-rest l = record {
  passes : Passes l.fn.self l.bytes l.self l.rest;
  small : IsSmall l.self;
  room : l.self.records + length l.rest ≤ l.fn.self.records + length l.bytes;
}

abbrev pub decreases-loop-rest : goal.decreases-loop-rest
decreases-loop-rest l = length l.rest
