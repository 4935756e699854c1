use Rattle.bsp_store_base.proofs.MapTables.{leaves_none, puts_in, puts_over, takes_out}
use Rattle.bsp_store_base.proofs.Writes.{on_err}
use Rattle.bsp_store_base.proofs.keyed_table.put.Goals as goal

pub returns-in_ok-run_row-clause-ok : goal.returns-in_ok-run_row-clause-ok
returns-in_ok-run_row-clause-ok g c = (puts_over g.T.KeyedTable.table c.statements-statements.ensures.lawful g.S.Store _ _ c.args.key c.args.is_there c.args.value c.in-Some.is c.if-is_there.true c.statements-statements.ensures.meant.update c.in_ok-run_row.ensures).0

pub returns-in_err-run_row-clause-err : goal.returns-in_err-run_row-clause-err
returns-in_err-run_row-clause-err g c = on_err _ (puts_over g.T.KeyedTable.table c.statements-statements.ensures.lawful g.S.Store _ _ c.args.key c.args.is_there c.args.value c.in-Some.is c.if-is_there.true c.statements-statements.ensures.meant.update c.in_err-run_row.ensures).1

pub returns-in_ok-run_row-2-clause-ok : goal.returns-in_ok-run_row-2-clause-ok
returns-in_ok-run_row-2-clause-ok g c = (puts_in g.T.KeyedTable.table c.statements-statements.ensures.lawful g.S.Store _ _ c.args.key c.args.is_there c.args.value c.in-Some.is c.if-is_there.false c.statements-statements.ensures.meant.insert c.in_ok-run_row-2.ensures).0

pub returns-in_err-run_row-2-clause-err : goal.returns-in_err-run_row-2-clause-err
returns-in_err-run_row-2-clause-err g c = on_err _ (puts_in g.T.KeyedTable.table c.statements-statements.ensures.lawful g.S.Store _ _ c.args.key c.args.is_there c.args.value c.in-Some.is c.if-is_there.false c.statements-statements.ensures.meant.insert c.in_err-run_row-2.ensures).1

pub returns-in_ok-run_key-clause-ok : goal.returns-in_ok-run_key-clause-ok
returns-in_ok-run_key-clause-ok g c = (takes_out g.T.KeyedTable.table c.statements-statements.ensures.lawful g.S.Store _ _ c.args.key c.args.is_there c.args.value c.in_default.is c.statements-statements.ensures.meant.delete c.in_ok-run_key.ensures).0

pub returns-in_err-run_key-clause-err : goal.returns-in_err-run_key-clause-err
returns-in_err-run_key-clause-err g c = on_err _ (takes_out g.T.KeyedTable.table c.statements-statements.ensures.lawful g.S.Store _ _ c.args.key c.args.is_there c.args.value c.in_default.is c.statements-statements.ensures.meant.delete c.in_err-run_key.ensures).1

pub returns-else-is_there-2-clause-ok : goal.returns-else-is_there-2-clause-ok
returns-else-is_there-2-clause-ok g c = leaves_none g.T.KeyedTable.table c.statements-statements.ensures.lawful g.S.Store c.args.conn.now c.args.key c.args.is_there c.args.value c.if-is_there-2.false c.in_default.is
