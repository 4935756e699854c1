use Rattle.bsp_memory_tables.specs.ItemTables.{item_rows}
use Rattle.bsp_memory_tables.specs.MemoTables.{memo_rows}
use Rattle.bsp_memory_tables.specs.TallyTables.{tally_rows_before}
use Rattle.bsp_store_save.specs.Saving.{HasDocuments}
use Rattle.bsp_store_save.proofs.StepLemmas.{after, stops, under}
use Rattle.bsp_store_save.proofs.TogetherLemmas.{tallies_stay}
use Rattle.bsp_store_save.proofs.saving.save_documents.Goals as goal

pub returns-in_err-save_items : goal.returns-in_err-save_items
returns-in_err-save_items g c = stops _ c.from_residual.ensures.1 (under (HasDocuments c.args.tables.now) (rw c.item_table.ensures at c.in_err-save_items.ensures) (λ now has. has.items)).err

pub returns-in_err-save_memos : goal.returns-in_err-save_memos
returns-in_err-save_memos g c = stops _ c.from_residual-in_err-save_memos.ensures.1 (after _ (under (HasDocuments c.args.tables.now) (rw c.item_table.ensures at c.in_ok-save_items.ensures) (λ now has. has.items)) (rw c.memo_table.ensures at c.in_err-save_memos.ensures) (λ now has. has.memos)).err

pub returns-in_err-save_tallies : goal.returns-in_err-save_tallies
returns-in_err-save_tallies g c = stops _ c.from_residual-in_err-save_tallies.ensures.1 (after _ (after _ (under (HasDocuments c.args.tables.now) (rw c.item_table.ensures at c.in_ok-save_items.ensures) (λ now has. has.items)) (rw c.memo_table.ensures at c.in_ok-save_memos.ensures) (λ now has. has.memos)) (rw c.tally_table.ensures at c.in_err-save_tallies.ensures) (λ now has. tallies_stay (tally_rows_before c.args.tables.now.tallies) (item_rows c.args.tables.now.items) (memo_rows c.args.tables.now.memos) now has.tallies)).err

pub returns : goal.returns
returns g c = after _ (after _ (under (HasDocuments c.args.tables.now) (rw c.item_table.ensures at c.in_ok-save_items.ensures) (λ now has. has.items)) (rw c.memo_table.ensures at c.in_ok-save_memos.ensures) (λ now has. has.memos)) (rw c.tally_table.ensures at c.in_ok-save_tallies.ensures) (λ now has. tallies_stay (tally_rows_before c.args.tables.now.tallies) (item_rows c.args.tables.now.items) (memo_rows c.args.tables.now.memos) now has.tallies)
