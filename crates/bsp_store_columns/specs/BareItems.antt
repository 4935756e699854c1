-- What a row of the table of items has of an item.
use Rattle.std.specs.Prelude.{Option}
use Rattle.bsp_rows.specs.Item.{Item}
use Rattle.bsp_rows.specs.ReportedDocument.{ReportedDocument}
use Rattle.bsp_rows.specs.declared.keys.ItemKey.{ItemKey}
use Rattle.bsp_store_columns.specs.declared.tables.item.BareItem.{BareItem}
use Rattle.bsp_store_columns.specs.declared.taxes.ItemTax.{ItemTax}
use Rattle.bsp_store_columns.specs.contracts.tables.item.BareItemCompleted.TheImpl.{ghosts as completed}
use Rattle.bsp_store_columns.specs.contracts.tables.item.BareItemReadEntry.TheImpl.{ghosts as read}

-- the item, with its tax and its second related document
abbrev pub item_of : BareItem → ItemTax → Option ReportedDocument → Item
item_of = completed.item_of

-- an item under its key, without them
abbrev pub bare_of : ItemKey × Item → BareItem
bare_of = completed.bare

-- what the program's types say of it, and that its taxes are such as are written
abbrev pub IsBareItem : BareItem → Type 0
IsBareItem = read.is_formed

-- its related document has its check digit
abbrev pub IsWholeItem : BareItem → Type 0
IsWholeItem = read.is_whole
