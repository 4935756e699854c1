-- Tallies that are kept beside the rows.
use Rattle.std.specs.Prelude.{◌≡◌, List, unwrap_or}
use Rattle.std.specs.FinMap.{FinMap, get, values}
use Rattle.bsp_rows.specs.Item.{Item}
use Rattle.bsp_rows.specs.MemoFields.{MemoFields}
use Rattle.bsp_rows.specs.Tally.{Tally}
use Rattle.bsp_rows.specs.declared.keys.TallyKey.{TallyKey}
use Rattle.bsp_rows.specs.Tallies.{added_up, key_tally, tally_cmp}
use Rattle.bsp_memory_tables.specs.ItemTables.{AreItemsKept, WereItemsKept, item_rows, item_rows_before}
use Rattle.bsp_memory_tables.specs.MemoTables.{AreMemosKept, WereMemosKept, memo_rows, memo_rows_before}
use Rattle.bsp_memory_tables.specs.declared.items.ItemTable.{ItemTable}
use Rattle.bsp_memory_tables.specs.RangeTables.{AreRangesKept, WereRangesKept}
use Rattle.bsp_memory_tables.specs.declared.ranges.RangeTable.{RangeTable}
use Rattle.bsp_memory_tables.specs.TallyTables.{AreTalliesKept, WereTalliesKept, tally_rows, tally_rows_before}
use Rattle.bsp_memory_tables.specs.declared.memos.MemoTable.{MemoTable}
use Rattle.bsp_memory_tables.specs.declared.tallies.TallyTable.{TallyTable}

-- the tally that is kept for a key, or that of no rows
abbrev pub tally_at : FinMap tally_cmp Tally → TallyKey → Tally
tally_at tallies k = unwrap_or (get tallies k) (key_tally k)

-- the tally of each key is what the rows of the key add up to
abbrev pub AreAddedUp : List Item → List MemoFields → FinMap tally_cmp Tally → Type 0
AreAddedUp items memos tallies = (k : TallyKey) → tally_at tallies k ≡ added_up (key_tally k) items memos

-- the indexes and the tallies follow from the rows
pub record AreDerived (ranges : RangeTable) (items : ItemTable) (memos : MemoTable) (tallies : TallyTable) : Type 0 where
  pub of_ranges : AreRangesKept ranges
  pub of_items : AreItemsKept items
  pub of_memos : AreMemosKept memos
  pub of_tallies : AreTalliesKept tallies
  pub totals : AreAddedUp (values (item_rows items)) (values (memo_rows memos)) (tally_rows tallies)

-- and did at the last commit
pub record WereDerived (ranges : RangeTable) (items : ItemTable) (memos : MemoTable) (tallies : TallyTable) : Type 0 where
  pub of_ranges : WereRangesKept ranges
  pub of_items : WereItemsKept items
  pub of_memos : WereMemosKept memos
  pub of_tallies : WereTalliesKept tallies
  pub totals : AreAddedUp (values (item_rows_before items)) (values (memo_rows_before memos)) (tally_rows_before tallies)
