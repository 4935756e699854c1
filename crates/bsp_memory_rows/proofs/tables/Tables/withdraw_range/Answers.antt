use Rattle.std.proofs.Common.{ℕ, ap, ◌∙◌}
use Rattle.std.specs.FinMap.{FinMap, remove}
use Rattle.bsp_memory_tables.specs.RangeTables.{range_rows}
use Rattle.bsp_rows.specs.Rows.{Rows, range_cmp}
use Rattle.bsp_memory_rows.specs.Tables.{rows_of}
use Rattle.bsp_memory_rows.proofs.tables.Tables.withdraw_range.Goals as goal

with_ranges : Rows → FinMap range_cmp ℕ → Rows
with_ranges rows ranges = record rows { ranges = ranges }

pub returns-clause-ok : goal.returns-clause-ok
unfolding with_ranges
returns-clause-ok c = ap (with_ranges (rows_of c.args.self.now)) (c.in_ok-withdraw.ensures.rows ∙ ap (λ k. remove (range_rows c.args.self.now.ranges) k) c.of.ensures)

pub returns-clause-derived : goal.returns-clause-derived
returns-clause-derived c = λ h. record { of_ranges = c.in_ok-withdraw.ensures.kept h.of_ranges; of_items = h.of_items; of_memos = h.of_memos; of_tallies = h.of_tallies; totals = h.totals }

pub returns-clause-was_derived : goal.returns-clause-was_derived
returns-clause-was_derived c = λ h. record { of_ranges = c.in_ok-withdraw.ensures.was_kept h.of_ranges; of_items = h.of_items; of_memos = h.of_memos; of_tallies = h.of_tallies; totals = h.totals }

pub returns-in_err-withdraw-clause-was_derived : goal.returns-in_err-withdraw-clause-was_derived
returns-in_err-withdraw-clause-was_derived c = λ h. record { of_ranges = c.withdraw.ensures.was_kept h.of_ranges; of_items = h.of_items; of_memos = h.of_memos; of_tallies = h.of_tallies; totals = h.totals }
