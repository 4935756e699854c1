use Rattle.std.proofs.Common.{refl}
use Rattle.bsp_store_base.proofs.Sqlite.{everything, understood}
use Rattle.bsp_store_base.proofs.MapTables.{shows_all}
use Rattle.bsp_store_base.specs.ItemTables.{seconds_map}
use Rattle.bsp_store_base.proofs.ItemTables.{seconds_lawful}
use Rattle.bsp_store_base.proofs.ItemOrders.{seconds_rise}
use Rattle.bsp_store_base.proofs.seconds.SecondsKeyedTableTicketKeyReportedDocument.statements.Goals as goal

pub returns-clause-meant : goal.returns-clause-meant
unfolding understood everything
returns-clause-meant c = record {
  delete = (refl, (refl, refl));
  insert = (refl, (refl, refl));
  update = (refl, (refl, refl));
  query = shows_all seconds_map seconds_lawful (λ trees r. refl) (λ trees r. refl) seconds_rise _ (refl, (refl, refl)) refl;
}

pub returns-clause-lawful : goal.returns-clause-lawful
returns-clause-lawful c = seconds_lawful
