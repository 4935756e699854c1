use Rattle.std.proofs.Common.{◌+◌}
use Rattle.std.specs.Prelude.{if◌then◌else◌}
use Rattle.bsp_check.proofs.WindowLemmas.{Draining}
use Rattle.bsp_check.proofs.window.Window.drain.Given as goal

abbrev pub invariant-loop-self : goal.invariant-loop-self
invariant-loop-self g l = record { draining : Draining l.fn.self l.self (g.R.Read.remaining l.fn.reader.inner) (g.R.Read.remaining l.reader.inner) }

abbrev pub decreases-loop-self : goal.decreases-loop-self
decreases-loop-self g l = if l.self.ended then 0 else l.self.left + 1
