use Rattle.bsp_memory_tables.specs.ItemTables.{item_rows_before}
use Rattle.bsp_store_save.proofs.FollowedTables.{item_taxes_table, items_table, seconds_table}
use Rattle.bsp_store_save.proofs.StepLemmas.{after, stops, unmade}
use Rattle.bsp_store_save.proofs.TogetherLemmas.{items_first, its_seconds, its_taxes}
use Rattle.bsp_store_save.proofs.WrittenLemmas.{table_saves}
use Rattle.bsp_store_save.proofs.written.save_items.Goals as goal

pub returns-in_err-before : goal.returns-in_err-before
returns-in_err-before g c = unmade _ c.from_residual.ensures.1

pub returns-in_err-put_written : goal.returns-in_err-put_written
returns-in_err-put_written g c = stops _ c.from_residual-in_err-put_written.ensures.1 (items_first (item_rows_before c.args.table.now) (table_saves items_table c.args.table.now.rows c.map-values.result.now c.written.result.now c.in_ok-before.before c.map-values.ensures c.written.ensures c.in_ok-before.ensures _ c.in_err-put_written.ensures)).err

pub returns-in_err-put_written-2 : goal.returns-in_err-put_written-2
returns-in_err-put_written-2 g c =
    stops _ c.from_residual-in_err-put_written-2.ensures.1 (after _ (items_first (item_rows_before c.args.table.now) (table_saves items_table c.args.table.now.rows c.map-values.result.now c.written.result.now c.in_ok-before.before c.map-values.ensures c.written.ensures c.in_ok-before.ensures _ c.in_ok-put_written.ensures))
    (table_saves item_taxes_table c.args.table.now.rows c.map-values.result.now c.written.result.now c.in_ok-before.before c.map-values.ensures c.written.ensures c.in_ok-before.ensures _ c.in_err-put_written-2.ensures) (its_taxes (item_rows_before c.args.table.now))).err

pub returns : goal.returns
returns g c =
    after _ (after _ (items_first (item_rows_before c.args.table.now) (table_saves items_table c.args.table.now.rows c.map-values.result.now c.written.result.now c.in_ok-before.before c.map-values.ensures c.written.ensures c.in_ok-before.ensures _ c.in_ok-put_written.ensures))
    (table_saves item_taxes_table c.args.table.now.rows c.map-values.result.now c.written.result.now c.in_ok-before.before c.map-values.ensures c.written.ensures c.in_ok-before.ensures _ c.in_ok-put_written-2.ensures) (its_taxes (item_rows_before c.args.table.now)))
    (table_saves seconds_table c.args.table.now.rows c.map-values.result.now c.written.result.now c.in_ok-before.before c.map-values.ensures c.written.ensures c.in_ok-before.ensures c.put_written-3.result c.put_written-3.ensures) (its_seconds (item_rows_before c.args.table.now))
