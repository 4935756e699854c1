use Rattle.bsp_memory_tables.specs.ItemTables.{item_rows, item_rows_before}
use Rattle.bsp_memory_tables.specs.MemoTables.{memo_rows, memo_rows_before}
use Rattle.bsp_memory_tables.specs.TallyTables.{tally_rows, tally_rows_before}
use Rattle.bsp_memory_rows.proofs.DerivedLemmas.{totals_same}
use Rattle.bsp_memory_rows.proofs.tables.Tables.commit.Goals as goal

pub returns-clause-derived : goal.returns-clause-derived
returns-clause-derived c = λ h. record {
  of_ranges = c.commit-4.ensures.kept h.of_ranges;
  of_items = c.commit-5.ensures.kept h.of_items;
  of_memos = c.commit-6.ensures.kept h.of_memos;
  of_tallies = c.commit-7.ensures.kept h.of_tallies;
  totals = totals_same (item_rows c.args.self.now.items) (item_rows c.commit-5.new.self) (memo_rows c.args.self.now.memos) (memo_rows c.commit-6.new.self) (tally_rows c.args.self.now.tallies) (tally_rows c.commit-7.new.self)
      c.commit-5.ensures.rows c.commit-6.ensures.rows c.commit-7.ensures.rows h.totals;
}

pub returns-clause-was_derived : goal.returns-clause-was_derived
returns-clause-was_derived c = λ h. record {
  of_ranges = c.commit-4.ensures.was_kept h.of_ranges;
  of_items = c.commit-5.ensures.was_kept h.of_items;
  of_memos = c.commit-6.ensures.was_kept h.of_memos;
  of_tallies = c.commit-7.ensures.was_kept h.of_tallies;
  totals = totals_same (item_rows c.args.self.now.items) (item_rows_before c.commit-5.new.self) (memo_rows c.args.self.now.memos) (memo_rows_before c.commit-6.new.self) (tally_rows c.args.self.now.tallies) (tally_rows_before c.commit-7.new.self)
      c.commit-5.ensures.before c.commit-6.ensures.before c.commit-7.ensures.before h.totals;
}
