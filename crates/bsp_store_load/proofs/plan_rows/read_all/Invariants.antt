use Rattle.std.proofs.Common.{List}
use Rattle.bsp_store_load.specs.Stored.{AreReadAs}
use Rattle.bsp_store_load.proofs.PlanReads.{IsReadSoFar}
use Rattle.bsp_store_load.proofs.plan_rows.read_all.Given as goal

abbrev pub invariant-loop-row : goal.invariant-loop-row
invariant-loop-row g l = (values : List _) → AreReadAs g.T.ReadsAs.is_in l.rows values → IsReadSoFar g.T.ReadsAs.is_in l.rows l.row-index l.found.items values
