use Rattle.std.proofs.Common.{refl}
use Rattle.bsp_store_base.proofs.Sqlite.{everything, understood}
use Rattle.bsp_store_base.proofs.Orders.{place_order}
use Rattle.bsp_store_rows.specs.Tables.{rates_list}
use Rattle.bsp_store_rows.proofs.PlacedTables.{meant}
use Rattle.bsp_store_rows.proofs.Tables.{rates_lawful}
use Rattle.bsp_store_rows.proofs.placed.RatesPlacedTableRate.statements.Goals as goal

pub returns-clause-meant : goal.returns-clause-meant
unfolding understood everything
returns-clause-meant c = meant rates_list rates_lawful _ (refl, (refl, refl)) (refl, (refl, refl)) refl (λ trees r. refl) (λ trees r. refl) (λ a b less. place_order a.0 b.0 less)
