-- The tax on the commission of an item.
use Rattle.bsp_rows.specs.Item.{Item}
use Rattle.bsp_store_columns.specs.declared.taxes.ItemTax.{ItemTax}

abbrev pub tax_with : Item → ItemTax
tax_with i = record { tax = i.tax; hundredths = i.hundredths }
