use Rattle.bsp_memory_tables.specs.ItemTables.{item_rows, item_rows_before}
use Rattle.bsp_memory_tables.specs.MemoTables.{memo_rows, memo_rows_before}
use Rattle.bsp_memory_tables.specs.TallyTables.{tally_rows, tally_rows_before}
use Rattle.bsp_memory_rows.proofs.DerivedLemmas.{totals_same}
use Rattle.bsp_memory_rows.proofs.tables.Tables.roll_back.Goals as goal

pub returns-clause-rows : goal.returns-clause-rows
returns-clause-rows c = λ i. record { published = c.roll_back.ensures.now i; agents = c.roll_back-2.ensures.content i; airlines = c.roll_back-3.ensures.content i; ranges = c.roll_back-4.ensures.rows i; items = c.roll_back-5.ensures.rows i; memos = c.roll_back-6.ensures.rows i }

pub returns-clause-committed : goal.returns-clause-committed
returns-clause-committed c = λ i. record { published = c.roll_back.ensures.before i; agents = c.roll_back-2.ensures.before i; airlines = c.roll_back-3.ensures.before i; ranges = c.roll_back-4.ensures.before i; items = c.roll_back-5.ensures.before i; memos = c.roll_back-6.ensures.before i }

pub returns-clause-derived : goal.returns-clause-derived
returns-clause-derived c = λ h. record {
  of_ranges = c.roll_back-4.ensures.kept h.of_ranges;
  of_items = c.roll_back-5.ensures.kept h.of_items;
  of_memos = c.roll_back-6.ensures.kept h.of_memos;
  of_tallies = c.roll_back-7.ensures.kept h.of_tallies;
  totals = totals_same (item_rows_before c.args.self.now.items) (item_rows c.roll_back-5.new.self) (memo_rows_before c.args.self.now.memos) (memo_rows c.roll_back-6.new.self) (tally_rows_before c.args.self.now.tallies) (tally_rows c.roll_back-7.new.self)
      c.roll_back-5.ensures.rows c.roll_back-6.ensures.rows c.roll_back-7.ensures.rows h.totals;
}

pub returns-clause-was_derived : goal.returns-clause-was_derived
returns-clause-was_derived c = λ h. record {
  of_ranges = c.roll_back-4.ensures.was_kept h.of_ranges;
  of_items = c.roll_back-5.ensures.was_kept h.of_items;
  of_memos = c.roll_back-6.ensures.was_kept h.of_memos;
  of_tallies = c.roll_back-7.ensures.was_kept h.of_tallies;
  totals = totals_same (item_rows_before c.args.self.now.items) (item_rows_before c.roll_back-5.new.self) (memo_rows_before c.args.self.now.memos) (memo_rows_before c.roll_back-6.new.self) (tally_rows_before c.args.self.now.tallies) (tally_rows_before c.roll_back-7.new.self)
      c.roll_back-5.ensures.before c.roll_back-6.ensures.before c.roll_back-7.ensures.before h.totals;
}
