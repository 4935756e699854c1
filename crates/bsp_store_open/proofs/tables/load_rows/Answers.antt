use Rattle.bsp_store_open.proofs.OpeningLemmas.{fails, no_tables, spares_itself}
use Rattle.bsp_store_open.proofs.tables.load_rows.Goals as goal

pub returns-in_err-expect_tables : goal.returns-in_err-expect_tables
returns-in_err-expect_tables g c = no_tables c.from_residual.ensures.1 (c.in_err-expect_tables.ensures.damaged, c.in_err-expect_tables.ensures.tables) (spares_itself g.S.Store c.args.conn.now)

pub returns-in_err-load_table : goal.returns-in_err-load_table
returns-in_err-load_table g c = fails _ c.from_residual-in_err-load_table.ensures.1 (c.in_err-load_table.ensures.spares c.in_ok-expect_tables.ensures.tables)

pub returns : goal.returns
returns g c =
    let ours = c.in_ok-expect_tables.ensures.tables in
    let it = c.in_ok-load_table.ensures in
    record { holds = it.derived; found = record { ours = ours; read = it.read ours; found = λ clean. it.loaded ours clean }; refused = tt; spares = it.spares ours }
