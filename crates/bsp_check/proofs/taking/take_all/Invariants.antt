use Rattle.std.proofs.Common.{◌+◌}
use Rattle.std.specs.Prelude.{if◌then◌else◌}
use Rattle.bsp_check.specs.Judging.{IsTaken}
use Rattle.bsp_check.proofs.taking.take_all.Given as goal

abbrev pub invariant-loop-window : goal.invariant-loop-window
invariant-loop-window g l = record { taken : IsTaken g.J.Judge.HasTaken g.J.Judge.IsAtFault l.judge l.taken.kept l.taken.fault l.fn.window.left l.window (g.R.Read.remaining l.fn.reader.inner) (g.R.Read.remaining l.reader.inner) }

abbrev pub decreases-loop-window : goal.decreases-loop-window
decreases-loop-window g l = if l.window.ended then 0 else l.window.left + 1
