use Rattle.std.proofs.Common.{drop}
use Rattle.bsp_store_base.specs.Columns.{placed}
use Rattle.bsp_store_load.proofs.Remaining.{AreLeft}
use Rattle.bsp_store_load.proofs.listed.are_placed_rows_of.Given as goal

abbrev pub invariant-loop-at : goal.invariant-loop-at
invariant-loop-at g l = AreLeft g.T.RowOf.row_of g.T.RowOf.has_row l.rows (placed 0 l.values) l.rest (placed l.at (drop l.at l.values))
