-- What the table of tallies contains.
use Rattle.std.specs.FinMap.{FinMap}
use Rattle.std.specs.Ordering.{nat_cmp}
use Rattle.bsp_rows.specs.Tally.{Tally}
use Rattle.bsp_maps.specs.Undo.{before, content}
use Rattle.bsp_maps.specs.Indexes.{IsIndex, entry_cmp, members, members_before}
use Rattle.bsp_rows.specs.Tallies.{tally_cmp}
use Rattle.bsp_memory_tables.specs.Places.{airline_cmp, tally_airline_place, tally_period_place}
use Rattle.bsp_memory_tables.specs.declared.tallies.TallyTable.{TallyTable}

-- the tallies now, and at the last commit
abbrev pub tally_rows : TallyTable → FinMap tally_cmp Tally
tally_rows t = content tally_cmp t.rows

abbrev pub tally_rows_before : TallyTable → FinMap tally_cmp Tally
tally_rows_before t = before tally_cmp t.rows

-- the indexes follow from the tallies
pub record AreTalliesIndexed (tallies : FinMap tally_cmp Tally) (airlines : FinMap (entry_cmp airline_cmp tally_cmp) (Unit {0})) (periods : FinMap (entry_cmp nat_cmp tally_cmp) (Unit {0})) : Type 0 where
  pub by_airline : IsIndex airline_cmp tally_cmp tally_airline_place tallies airlines
  pub by_period : IsIndex nat_cmp tally_cmp tally_period_place tallies periods

-- they do now, and did at the last commit
abbrev pub AreTalliesKept : TallyTable → Type 0
AreTalliesKept t = AreTalliesIndexed (tally_rows t) (members airline_cmp tally_cmp t.by_airline) (members nat_cmp tally_cmp t.by_period)

abbrev pub WereTalliesKept : TallyTable → Type 0
WereTalliesKept t = AreTalliesIndexed (tally_rows_before t) (members_before airline_cmp tally_cmp t.by_airline) (members_before nat_cmp tally_cmp t.by_period)
