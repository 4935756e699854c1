use Rattle.std.proofs.Common.{◌≡◌}
use Rattle.bsp_store_base.proofs.Sqlite.{HasCleanDisk, state, Survives}
use Rattle.bsp_store_base.specs.Schema.{our_schema}
use Rattle.bsp_store_load.proofs.Showing.{IsSoFar}
use Rattle.bsp_store_load.proofs.load.load_table.Given as goal

abbrev pub invariant-rows : goal.invariant-rows
invariant-rows g l = record {
  name : l.rows.conn.ghost_name ≡ l.initial.rows.conn.ghost_name;
  derived : g.T.StoredTable.is_kept l.fn.memory → g.T.StoredTable.is_kept l.memory;
  survives : l.fn.conn.schema ≡ our_schema → Survives (state g.S.Store l.fn.conn) (state g.S.Store l.rows.conn.now) (λ _. ⊥);
  so_far : l.fn.conn.schema ≡ our_schema → HasCleanDisk (state g.S.Store l.rows.conn.now)
      → IsSoFar g.T.StoredTable.part g.T.StoredTable.row_of g.T.StoredTable.with_entry (g.T.StoredTable.fits l.fn.table) g.T.StoredTable.lacks g.T.StoredTable.rows_in g.S.Store l.fn.conn l.rows.conn.now (g.T.StoredTable.whole l.fn.memory) (g.T.StoredTable.whole l.memory);
}
