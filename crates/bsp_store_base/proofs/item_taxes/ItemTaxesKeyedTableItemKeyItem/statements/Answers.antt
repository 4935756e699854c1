use Rattle.std.proofs.Common.{refl}
use Rattle.bsp_store_base.proofs.Sqlite.{everything, understood}
use Rattle.bsp_store_base.proofs.MapTables.{shows_all}
use Rattle.bsp_store_base.specs.ItemTables.{item_taxes_map}
use Rattle.bsp_store_base.proofs.ItemTables.{item_taxes_lawful}
use Rattle.bsp_store_base.proofs.ItemOrders.{item_taxes_rise}
use Rattle.bsp_store_base.proofs.item_taxes.ItemTaxesKeyedTableItemKeyItem.statements.Goals as goal

pub returns-clause-meant : goal.returns-clause-meant
unfolding understood everything
returns-clause-meant c = record {
  delete = (refl, (refl, refl));
  insert = (refl, (refl, refl));
  update = (refl, (refl, refl));
  query = shows_all item_taxes_map item_taxes_lawful (λ trees r. refl) (λ trees r. refl) item_taxes_rise _ (refl, (refl, refl)) refl;
}

pub returns-clause-lawful : goal.returns-clause-lawful
returns-clause-lawful c = item_taxes_lawful
