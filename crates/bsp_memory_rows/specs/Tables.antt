-- What the tables of a book in memory contain.
use Rattle.std.specs.FinMap.{insert}
use Rattle.std.specs.Ordering.{nat_cmp}
use Rattle.bsp_rows.specs.Item.{Item}
use Rattle.bsp_rows.specs.MemoFields.{MemoFields}
use Rattle.bsp_maps.specs.Undo.{before, content}
use Rattle.bsp_rows.specs.declared.keys.ItemKey.{ItemKey}
use Rattle.bsp_rows.specs.declared.keys.MemoKey.{MemoKey}
use Rattle.bsp_rows.specs.Rows.{Rows}
use Rattle.bsp_memory_tables.specs.ItemTables.{item_rows, item_rows_before}
use Rattle.bsp_memory_tables.specs.MemoTables.{memo_rows, memo_rows_before}
use Rattle.bsp_memory_tables.specs.RangeTables.{range_rows, range_rows_before}
use Rattle.bsp_memory_rows.specs.Kept.{AreDerived, WereDerived}
use Rattle.bsp_memory_rows.specs.declared.tables.Tables.{Tables}

-- the rows
abbrev pub rows_of : Tables → Rows
rows_of t = record {
  published = t.plan.plan;
  agents = content nat_cmp t.agents;
  airlines = content nat_cmp t.airlines;
  ranges = range_rows t.ranges;
  items = item_rows t.items;
  memos = memo_rows t.memos;
}

-- the rows at the last commit
abbrev pub committed_rows : Tables → Rows
committed_rows t = record {
  published = t.plan.before;
  agents = before nat_cmp t.agents;
  airlines = before nat_cmp t.airlines;
  ranges = range_rows_before t.ranges;
  items = item_rows_before t.items;
  memos = memo_rows_before t.memos;
}

-- the indexes and the tallies follow from the rows, and did at the last commit
abbrev pub IsDerived : Tables → Type 0
IsDerived t = AreDerived t.ranges t.items t.memos t.tallies

abbrev pub WasDerived : Tables → Type 0
WasDerived t = WereDerived t.ranges t.items t.memos t.tallies

-- ---- rows with a value written at a key

abbrev pub with_item_at : ItemKey → Item → Rows → Rows
with_item_at key item rows = record rows { items = insert rows.items key item }

abbrev pub with_memo_at : MemoKey → MemoFields → Rows → Rows
with_memo_at key memo rows = record rows { memos = insert rows.memos key memo }
