use Rattle.std.proofs.Common.{refl}
use Rattle.bsp_store_base.proofs.Sqlite.{everything, understood}
use Rattle.bsp_store_rows.specs.Tables.{memos_map}
use Rattle.bsp_store_rows.proofs.Tables.{memos_lawful}
use Rattle.bsp_store_rows.proofs.Orders.{memos_rise, meant}
use Rattle.bsp_store_rows.proofs.memos.MemosKeyedTableMemoKeyMemo.statements.Goals as goal

pub returns-clause-meant : goal.returns-clause-meant
unfolding understood everything
returns-clause-meant c = meant memos_map memos_lawful memos_rise _ (refl, (refl, refl)) (refl, (refl, refl)) (refl, (refl, refl)) (refl, (refl, refl)) refl (λ trees r. refl) (λ trees r. refl)
