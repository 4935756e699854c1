use Rattle.bsp_memory_tables.specs.TallyTables.{tally_rows_before}
use Rattle.bsp_store_save.proofs.FollowedTables.{tallies_table, tally_taxes_table}
use Rattle.bsp_store_save.proofs.StepLemmas.{after, stops, unmade}
use Rattle.bsp_store_save.proofs.TogetherLemmas.{its_tally_taxes, tallies_first}
use Rattle.bsp_store_save.proofs.WrittenLemmas.{table_saves}
use Rattle.bsp_store_save.proofs.written.save_tallies.Goals as goal

pub returns-in_err-before : goal.returns-in_err-before
returns-in_err-before g c = unmade _ c.from_residual.ensures.1

pub returns-in_err-put_written : goal.returns-in_err-put_written
returns-in_err-put_written g c = stops _ c.from_residual-in_err-put_written.ensures.1 (tallies_first (tally_rows_before c.args.table.now) (table_saves tallies_table c.args.table.now.rows c.map-values.result.now c.written.result.now c.in_ok-before.before c.map-values.ensures c.written.ensures c.in_ok-before.ensures _ c.in_err-put_written.ensures)).err

pub returns : goal.returns
returns g c =
    after _ (tallies_first (tally_rows_before c.args.table.now) (table_saves tallies_table c.args.table.now.rows c.map-values.result.now c.written.result.now c.in_ok-before.before c.map-values.ensures c.written.ensures c.in_ok-before.ensures _ c.in_ok-put_written.ensures))
    (table_saves tally_taxes_table c.args.table.now.rows c.map-values.result.now c.written.result.now c.in_ok-before.before c.map-values.ensures c.written.ensures c.in_ok-before.ensures c.put_written-2.result c.put_written-2.ensures) (its_tally_taxes (tally_rows_before c.args.table.now))
