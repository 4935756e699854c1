-- What the table of memos contains.
use Rattle.std.specs.Prelude.{ℕ}
use Rattle.std.specs.FinMap.{FinMap}
use Rattle.std.specs.Ordering.{nat_cmp}
use Rattle.bsp_rows.specs.MemoFields.{MemoFields}
use Rattle.bsp_maps.specs.Undo.{before, content}
use Rattle.bsp_maps.specs.Counts.{AreCounted, counted, counted_before}
use Rattle.bsp_maps.specs.Indexes.{IsIndex, entry_cmp, members, members_before}
use Rattle.bsp_rows.specs.Rows.{memo_cmp}
use Rattle.bsp_memory_tables.specs.Places.{agent_place, one_cmp, parties_cmp, parties_of, unbilled_place}
use Rattle.bsp_memory_tables.specs.declared.memos.MemoTable.{MemoTable}

-- the memos now, and at the last commit
abbrev pub memo_rows : MemoTable → FinMap memo_cmp MemoFields
memo_rows t = content memo_cmp t.rows

abbrev pub memo_rows_before : MemoTable → FinMap memo_cmp MemoFields
memo_rows_before t = before memo_cmp t.rows

-- the indexes and the counts follow from the memos
pub record AreMemosIndexed (memos : FinMap memo_cmp MemoFields) (agents : FinMap (entry_cmp nat_cmp memo_cmp) (Unit {0})) (due : FinMap (entry_cmp one_cmp memo_cmp) (Unit {0})) (counts : FinMap parties_cmp ℕ) : Type 0 where
  pub by_agent : IsIndex nat_cmp memo_cmp agent_place memos agents
  pub unbilled : IsIndex one_cmp memo_cmp unbilled_place memos due
  pub issued : AreCounted parties_cmp parties_of memos counts

-- they do now, and did at the last commit
abbrev pub AreMemosKept : MemoTable → Type 0
AreMemosKept t = AreMemosIndexed (memo_rows t) (members nat_cmp memo_cmp t.by_agent) (members one_cmp memo_cmp t.unbilled) (counted parties_cmp t.issued)

abbrev pub WereMemosKept : MemoTable → Type 0
WereMemosKept t = AreMemosIndexed (memo_rows_before t) (members_before nat_cmp memo_cmp t.by_agent) (members_before one_cmp memo_cmp t.unbilled) (counted_before parties_cmp t.issued)
