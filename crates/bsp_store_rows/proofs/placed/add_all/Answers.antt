use Rattle.bsp_store_base.proofs.Writes.{on_err}
use Rattle.bsp_store_rows.proofs.PlacedTables.{all_added, none_added, not_added, one_added}
use Rattle.bsp_store_rows.proofs.placed.add_all.Goals as goal

pub loop-at-init : goal.loop-at-init
loop-at-init g c = none_added g.T.PlacedTable.list c.statements-statements.ensures.lawful g.S.Store c.args.conn.now c.args.from c.args.entries.now

pub loop-at-preserved : goal.loop-at-preserved
loop-at-preserved g c =
    one_added g.T.PlacedTable.list c.statements-statements.ensures.lawful g.S.Store c.args.conn.now c.args.from c.args.entries.now c.loop-at.conn c.run_row.new.conn c.loop-at.at c.loop-at.invariant
    _ c.statements-statements.ensures.meant.insert c.index-entries-at.result _ c.loop-at-test.true c.index-entries-at.is c.in_ok-run_row.ensures

pub returns-clause-ok : goal.returns-clause-ok
returns-clause-ok g c = all_added g.T.PlacedTable.list c.statements-statements.ensures.lawful g.S.Store c.args.conn.now c.args.from c.args.entries.now c.loop-at.conn c.loop-at.at c.loop-at.invariant c.loop-at-test.false

pub returns-in_err-run_row-clause-err : goal.returns-in_err-run_row-clause-err
returns-in_err-run_row-clause-err g c =
    on_err c.from_residual.result (not_added g.T.PlacedTable.list c.statements-statements.ensures.lawful g.S.Store c.args.conn.now c.args.from c.args.entries.now c.loop-at.conn c.run_row.new.conn c.loop-at.at c.loop-at.invariant
    _ c.statements-statements.ensures.meant.insert c.index-entries-at.result _ c.in_err-run_row.ensures)
