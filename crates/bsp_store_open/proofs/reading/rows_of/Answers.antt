use Rattle.bsp_store_open.proofs.OpeningLemmas.{fails, no_tables, spares_itself}
use Rattle.bsp_store_open.proofs.reading.rows_of.Goals as goal

pub returns-in_err-expect_tables : goal.returns-in_err-expect_tables
returns-in_err-expect_tables g c = no_tables c.from_residual.ensures.1 (c.in_err-expect_tables.ensures.damaged, c.in_err-expect_tables.ensures.tables) (spares_itself g.S.Store c.args.conn.now)

pub returns-in_err-all_rows : goal.returns-in_err-all_rows
returns-in_err-all_rows g c = fails _ c.from_residual-in_err-all_rows.ensures.1 (c.in_err-all_rows.ensures.spares c.in_ok-expect_tables.ensures.tables)

pub returns : goal.returns
returns g c =
    let ours = c.in_ok-expect_tables.ensures.tables in
    let it = c.in_ok-all_rows.ensures in
    record { holds = tt; found = record { ours = ours; read = it.read ours; found = λ clean. record { in_any_order = it.rows clean ours; in_order = it.order clean ours } }; refused = tt; spares = it.spares ours }
