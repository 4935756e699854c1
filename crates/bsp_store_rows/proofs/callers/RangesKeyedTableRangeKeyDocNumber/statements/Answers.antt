use Rattle.std.proofs.Common.{refl}
use Rattle.bsp_store_base.proofs.Sqlite.{everything, understood}
use Rattle.bsp_store_rows.specs.Tables.{ranges_map}
use Rattle.bsp_store_rows.proofs.Tables.{ranges_lawful}
use Rattle.bsp_store_rows.proofs.Orders.{ranges_rise, meant}
use Rattle.bsp_store_rows.proofs.callers.RangesKeyedTableRangeKeyDocNumber.statements.Goals as goal

pub returns-clause-meant : goal.returns-clause-meant
unfolding understood everything
returns-clause-meant c = meant ranges_map ranges_lawful ranges_rise _ (refl, (refl, refl)) (refl, (refl, refl)) (refl, (refl, refl)) (refl, (refl, refl)) refl (λ trees r. refl) (λ trees r. refl)
