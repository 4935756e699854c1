use Rattle.std.proofs.Common.{refl}
use Rattle.bsp_store_base.proofs.Sqlite.{everything, understood}
use Rattle.bsp_store_rows.specs.Tables.{airlines_map}
use Rattle.bsp_store_rows.proofs.Tables.{airlines_lawful}
use Rattle.bsp_store_rows.proofs.Orders.{airlines_rise, meant}
use Rattle.bsp_store_rows.proofs.airlines.AirlinesKeyedTableAirlineCodeStoredAirline.statements.Goals as goal

pub returns-clause-meant : goal.returns-clause-meant
unfolding understood everything
returns-clause-meant c = meant airlines_map airlines_lawful airlines_rise _ (refl, (refl, refl)) (refl, (refl, refl)) (refl, (refl, refl)) (refl, (refl, refl)) refl (λ trees r. refl) (λ trees r. refl)
