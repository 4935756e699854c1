use Rattle.std.specs.FinMap.{empty}
use Rattle.bsp_memory_tables.specs.ItemTables.{item_rows, item_rows_before}
use Rattle.bsp_memory_tables.specs.MemoTables.{memo_rows, memo_rows_before}
use Rattle.bsp_memory_tables.specs.TallyTables.{tally_rows, tally_rows_before}
use Rattle.bsp_memory_rows.proofs.DerivedLemmas.{no_totals, totals_same}
use Rattle.bsp_memory_rows.proofs.tables.Tables.new.Goals as goal

pub returns-clause-rows : goal.returns-clause-rows
returns-clause-rows c = λ i. record { published = c.new.ensures.now i; agents = c.new-2.ensures.content i; airlines = c.new-3.ensures.content i; ranges = c.new-4.ensures.rows i; items = c.new-5.ensures.rows i; memos = c.new-6.ensures.rows i }

pub returns-clause-committed : goal.returns-clause-committed
returns-clause-committed c = λ i. record { published = c.new.ensures.before i; agents = c.new-2.ensures.before i; airlines = c.new-3.ensures.before i; ranges = c.new-4.ensures.before i; items = c.new-5.ensures.before i; memos = c.new-6.ensures.before i }

pub returns-clause-derived : goal.returns-clause-derived
returns-clause-derived c = record {
  of_ranges = c.new-4.ensures.kept;
  of_items = c.new-5.ensures.kept;
  of_memos = c.new-6.ensures.kept;
  of_tallies = c.new-7.ensures.kept;
  totals = totals_same empty (item_rows c.new-5.result) empty (memo_rows c.new-6.result) empty (tally_rows c.new-7.result) c.new-5.ensures.rows c.new-6.ensures.rows c.new-7.ensures.rows no_totals;
}

pub returns-clause-was_derived : goal.returns-clause-was_derived
returns-clause-was_derived c = record {
  of_ranges = c.new-4.ensures.was_kept;
  of_items = c.new-5.ensures.was_kept;
  of_memos = c.new-6.ensures.was_kept;
  of_tallies = c.new-7.ensures.was_kept;
  totals = totals_same empty (item_rows_before c.new-5.result) empty (memo_rows_before c.new-6.result) empty (tally_rows_before c.new-7.result) c.new-5.ensures.before c.new-6.ensures.before c.new-7.ensures.before no_totals;
}
