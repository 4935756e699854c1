use Rattle.std.proofs.Common.{◌≡◌, length}
use Rattle.bsp_maps.specs.Undo.{before}
use Rattle.bsp_maps.proofs.logged.Logged.roll_back.Given as goal

abbrev pub invariant-loop-old : goal.invariant-loop-old
invariant-loop-old g l = before g.K.Ord.cmp l.self ≡ before g.K.Ord.cmp l.fn.self

abbrev pub decreases-loop-old : goal.decreases-loop-old
decreases-loop-old g l = length l.self.undo.items
