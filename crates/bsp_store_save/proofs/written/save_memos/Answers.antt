use Rattle.bsp_store_save.proofs.FollowedTables.{memos_table}
use Rattle.bsp_store_save.proofs.StepLemmas.{unmade}
use Rattle.bsp_store_save.proofs.WrittenLemmas.{table_saves}
use Rattle.bsp_store_save.proofs.written.save_memos.Goals as goal

pub returns-in_err-before : goal.returns-in_err-before
returns-in_err-before g c = unmade _ c.from_residual.ensures.1

pub returns : goal.returns
returns g c = table_saves memos_table c.args.table.now.rows c.map-values.result.now c.written.result.now c.in_ok-before.before c.map-values.ensures c.written.ensures c.in_ok-before.ensures c.put_written.result c.put_written.ensures
