-- What the table of ranges contains.
use Rattle.std.specs.Prelude.{ℕ, List, Option, option_map}
use Rattle.std.specs.FinMap.{FinMap}
use Rattle.std.specs.List.{filter_map}
use Rattle.std.specs.Ordering.{nat_cmp}
use Rattle.bsp_maps.specs.Undo.{before, content}
use Rattle.bsp_maps.specs.Present.{present}
use Rattle.bsp_rows.specs.Range.{Range}
use Rattle.bsp_maps.specs.Indexes.{IsIndex, members, members_before}
use Rattle.bsp_rows.specs.declared.keys.RangeKey.{RangeKey}
use Rattle.bsp_rows.specs.Rows.{range_cmp, range_of}
use Rattle.bsp_memory_tables.specs.Places.{last_place}
use Rattle.bsp_memory_tables.specs.declared.ranges.RangeTable.{RangeTable}

-- the ranges now, and at the last commit
abbrev pub range_rows : RangeTable → FinMap range_cmp ℕ
range_rows t = present (content range_cmp t.rows)

abbrev pub range_rows_before : RangeTable → FinMap range_cmp ℕ
range_rows_before t = present (before range_cmp t.rows)

-- the index follows from the ranges, and did at the last commit
abbrev pub AreRangesKept : RangeTable → Type 0
AreRangesKept t = IsIndex nat_cmp range_cmp last_place (range_rows t) (members nat_cmp range_cmp t.by_last)

abbrev pub WereRangesKept : RangeTable → Type 0
WereRangesKept t = IsIndex nat_cmp range_cmp last_place (range_rows_before t) (members_before nat_cmp range_cmp t.by_last)

-- the range of a key, unless it was withdrawn
abbrev pub present_range : RangeKey × Option ℕ → Option Range
present_range e = option_map (λ last. range_of (e.0, last)) e.1

-- the ranges that were not withdrawn
abbrev pub present_ranges : List (RangeKey × Option ℕ) → List Range
present_ranges es = filter_map present_range es
