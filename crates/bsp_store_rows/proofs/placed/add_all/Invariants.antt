use Rattle.std.proofs.Common.{take}
use Rattle.bsp_store_base.specs.Calls.{Changes}
use Rattle.bsp_store_rows.specs.PlacedTables.{has_first, with_all}
use Rattle.bsp_store_rows.proofs.placed.add_all.Given as goal

abbrev pub invariant-loop-at : goal.invariant-loop-at
invariant-loop-at g l = Changes g.S.Store l.fn.conn l.conn (has_first g.T.PlacedTable.list l.from l.entries) (with_all g.T.PlacedTable.list (take l.at l.entries))
