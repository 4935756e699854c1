-- What the table of items contains.
use Rattle.std.specs.Prelude.{ℕ}
use Rattle.std.specs.FinMap.{FinMap}
use Rattle.bsp_rows.specs.Item.{Item}
use Rattle.bsp_maps.specs.Counts.{counted, counted_before}
use Rattle.bsp_maps.specs.Undo.{before, content}
use Rattle.bsp_maps.specs.Indexes.{IsIndex, entry_cmp, members, members_before}
use Rattle.bsp_rows.specs.declared.keys.ItemKey.{ItemKey}
use Rattle.bsp_rows.specs.Rows.{item_cmp}
use Rattle.bsp_memory_tables.specs.Numbers.{IsIndexed, number_cmp}
use Rattle.bsp_memory_tables.specs.Places.{airline_cmp, item_place}
use Rattle.bsp_memory_tables.specs.Used.{AreUsedCounted, block_cmp}
use Rattle.bsp_memory_tables.specs.declared.items.ItemTable.{ItemTable}

-- the items now, and at the last commit
abbrev pub item_rows : ItemTable → FinMap item_cmp Item
item_rows t = content item_cmp t.rows

abbrev pub item_rows_before : ItemTable → FinMap item_cmp Item
item_rows_before t = before item_cmp t.rows

-- the indexes and the counts follow from the items
pub record AreItemsIndexed (items : FinMap item_cmp Item) (numbers : FinMap number_cmp ItemKey) (airlines : FinMap (entry_cmp airline_cmp item_cmp) (Unit {0})) (counts : FinMap block_cmp ℕ) : Type 0 where
  pub by_number : IsIndexed items numbers
  pub by_airline : IsIndex airline_cmp item_cmp item_place items airlines
  pub used : AreUsedCounted items counts

-- they do now, and did at the last commit
abbrev pub AreItemsKept : ItemTable → Type 0
AreItemsKept t = AreItemsIndexed (item_rows t) (content number_cmp t.by_number) (members airline_cmp item_cmp t.by_airline) (counted block_cmp t.used)

abbrev pub WereItemsKept : ItemTable → Type 0
WereItemsKept t = AreItemsIndexed (item_rows_before t) (before number_cmp t.by_number) (members_before airline_cmp item_cmp t.by_airline) (counted_before block_cmp t.used)
