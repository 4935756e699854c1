use Rattle.std.proofs.Common.{refl}
use Rattle.bsp_store_base.proofs.Sqlite.{everything, understood}
use Rattle.bsp_store_rows.specs.Tables.{tallies_map}
use Rattle.bsp_store_rows.proofs.Tables.{tallies_lawful}
use Rattle.bsp_store_rows.proofs.Orders.{tallies_rise, meant}
use Rattle.bsp_store_rows.proofs.tallies.TalliesKeyedTableTallyKeyTally.statements.Goals as goal

pub returns-clause-meant : goal.returns-clause-meant
unfolding understood everything
returns-clause-meant c = meant tallies_map tallies_lawful tallies_rise _ (refl, (refl, refl)) (refl, (refl, refl)) (refl, (refl, refl)) (refl, (refl, refl)) refl (λ trees r. refl) (λ trees r. refl)
