-- What the tables beside that of items keep of the items.
use Rattle.std.specs.Prelude.{◌≡◌, false, None, Option, option_and_then, option_map, Some, filter_map}
use Rattle.bsp_store_base.specs.Std.{entries, FinMap, from_sorted, get, option_xor}
use Rattle.bsp_store_base.specs.Entries.{HasNumberKey, is_wrong_place, IsRight, Item, item_cmp, ItemKey, key_of, ReportedDocument, Rows, second_of}
use Rattle.bsp_store_base.specs.Base.{IsItemEntry, IsSecondEntry, tax_with, ticket_cmp, ticket_of}
use Rattle.bsp_store_columns.specs.declared.taxes.ItemTax.{ItemTax}
use Rattle.bsp_store_columns.specs.declared.tickets.TicketKey.{TicketKey}

-- ---- taxes

-- the tax of an item, under the item's key
abbrev pub tax_entry : ItemKey × Item → Option (ItemKey × ItemTax)
tax_entry e = Some (e.0, tax_with e.1)

-- those of all items
unfoldable pub taxes_of : FinMap item_cmp Item → FinMap item_cmp ItemTax
taxes_of items = from_sorted (filter_map tax_entry (entries items))

-- the tax that is kept at a key: the one that is left there, or that of the item in memory; none where both are
abbrev pub kept_tax : FinMap item_cmp ItemTax → FinMap item_cmp Item → ItemKey → Option ItemTax
kept_tax left items k = option_xor (get left k) (option_map tax_with (get items k))

-- ---- second related documents

-- one that a book may have: its number has its check digit
pub record IsSecond (e : TicketKey × ReportedDocument) : Type 0 where
  pub formed : IsSecondEntry e
  pub checked : is_wrong_place (Some e.1) ≡ false

-- that of the ticket of an item's key, and none of a CANX
abbrev pub second_at : FinMap ticket_cmp ReportedDocument → ItemKey → Option ReportedDocument
second_at seconds k = option_and_then (λ t. get seconds t) (ticket_of k)

-- ---- items with both

-- an item is under its own key
pub record IsKeyed (e : ItemKey × Item) : Type 0 where
  pub numbered : HasNumberKey e.1
  pub keyed : key_of e.1 ≡ e.0

module _ (taxes : FinMap item_cmp ItemTax) (seconds : FinMap ticket_cmp ReportedDocument) (e : ItemKey × Item) where
  -- an item has the tax and the second document that are kept of its key
  pub record IsJoined : Type 0 where
    pub tax : get taxes e.0 ≡ Some (tax_with e.1)
    pub second : second_of e.1.transaction ≡ second_at seconds e.0

  -- an item that a book may have by itself, with what is kept of its key
  pub record IsStoredItem : Type 0 where
    pub formed : IsItemEntry e
    pub right : IsRight e.0 e.1
    pub joined : IsJoined

-- the same apart from its tax
pub record IsRelatedItem (seconds : FinMap ticket_cmp ReportedDocument) (e : ItemKey × Item) : Type 0 where
  pub formed : IsItemEntry e
  pub right : IsRight e.0 e.1
  pub second : second_of e.1.transaction ≡ second_at seconds e.0

-- rows, and the tax that is kept at each key
abbrev pub Taxed : Type 0
Taxed = Rows × (ItemKey → Option ItemTax)

-- no item of the key is in memory, and the tax that is kept there is the item's
pub record LacksItem (e : ItemKey × Item) (w : Taxed) : Type 0 where
  pub keyed : key_of e.1 ≡ e.0
  pub none : get w.0.items e.0 ≡ None
  pub taxed : w.1 e.0 ≡ Some (tax_with e.1)

-- no item of the key is in memory, and its tax is left
pub record IsAwaited (left : FinMap item_cmp ItemTax) (rows : Rows) (e : ItemKey × Item) : Type 0 where
  pub none : get rows.items e.0 ≡ None
  pub tax : get left e.0 ≡ Some (tax_with e.1)
