use Rattle.std.proofs.Common.{◌++◌, ap, refl, sym, subst, Option}
use Rattle.std.specs.FinMap.{FinMap, insert}
use Rattle.std.specs.Option.{option_to_list}
use Rattle.bsp_rows.specs.Item.{Item}
use Rattle.bsp_memory_tables.specs.ItemTables.{item_rows, item_rows_before}
use Rattle.bsp_memory_tables.specs.MemoTables.{memo_rows, memo_rows_before}
use Rattle.bsp_memory_tables.specs.TallyTables.{tally_rows, tally_rows_before}
use Rattle.bsp_rows.specs.Rows.{Rows, item_cmp}
use Rattle.bsp_memory_rows.specs.Kept.{AreAddedUp}
use Rattle.bsp_memory_rows.specs.Tables.{committed_rows, rows_of}
use Rattle.bsp_memory_rows.proofs.DerivedLemmas.{item_totals, totals_same}
use Rattle.bsp_memory_rows.proofs.tables.Tables.put_item.Goals as goal

pub returns-clause-derived : goal.returns-clause-derived
returns-clause-derived c = λ h.
    let key = c.args.key.now in
    let item = c.args.item.now in
    let items = item_rows c.args.self.now.items in
    let memos = memo_rows c.args.self.now.memos in
    let tallies = tally_rows c.args.self.now.tallies in
    let next = tally_rows c.recount_item.new.tallies in
    record {
      of_ranges = h.of_ranges;
      of_items = c.in_ok-put.ensures.kept h.of_items;
      of_memos = h.of_memos;
      of_tallies = c.in_ok-recount_item.ensures.kept h.of_tallies;
      totals = totals_same (insert items key item) (item_rows c.put.new.self) memos memos next next c.in_ok-put.ensures.rows refl refl
          (item_totals items memos tallies next key item
          (λ others ms before. c.in_ok-recount_item.ensures.ok others ms (subst (λ (o : Option Item). AreAddedUp (option_to_list o ++ others) ms tallies) (sym c.requires) before)) h.totals);
    }

with_items : Rows → FinMap item_cmp Item → Rows
with_items rows items = record rows { items = items }

pub returns-clause-ok : goal.returns-clause-ok
unfolding with_items
returns-clause-ok c = ap (with_items (rows_of c.args.self.now)) c.in_ok-put.ensures.rows

pub returns-clause-committed : goal.returns-clause-committed
unfolding with_items
returns-clause-committed c = ap (with_items (committed_rows c.args.self.now)) c.put.ensures.before

pub returns-in_err-put-clause-committed : goal.returns-in_err-put-clause-committed
unfolding with_items
returns-in_err-put-clause-committed c = ap (with_items (committed_rows c.args.self.now)) c.put.ensures.before

pub returns-clause-was_derived : goal.returns-clause-was_derived
returns-clause-was_derived c = λ h. record {
  of_ranges = h.of_ranges;
  of_items = c.put.ensures.was_kept h.of_items;
  of_memos = h.of_memos;
  of_tallies = c.recount_item.ensures.was_kept h.of_tallies;
  totals = totals_same (item_rows_before c.args.self.now.items) (item_rows_before c.put.new.self) (memo_rows_before c.args.self.now.memos) (memo_rows_before c.args.self.now.memos)
      (tally_rows_before c.args.self.now.tallies) (tally_rows_before c.recount_item.new.tallies) c.put.ensures.before refl c.recount_item.ensures.before h.totals;
}

pub returns-in_err-put-clause-was_derived : goal.returns-in_err-put-clause-was_derived
returns-in_err-put-clause-was_derived c = λ h. record {
  of_ranges = h.of_ranges;
  of_items = c.put.ensures.was_kept h.of_items;
  of_memos = h.of_memos;
  of_tallies = c.recount_item.ensures.was_kept h.of_tallies;
  totals = totals_same (item_rows_before c.args.self.now.items) (item_rows_before c.put.new.self) (memo_rows_before c.args.self.now.memos) (memo_rows_before c.args.self.now.memos)
      (tally_rows_before c.args.self.now.tallies) (tally_rows_before c.recount_item.new.tallies) c.put.ensures.before refl c.recount_item.ensures.before h.totals;
}

pub returns-in_err-recount_item-clause-was_derived : goal.returns-in_err-recount_item-clause-was_derived
returns-in_err-recount_item-clause-was_derived c = λ h. record {
  of_ranges = h.of_ranges;
  of_items = h.of_items;
  of_memos = h.of_memos;
  of_tallies = c.recount_item.ensures.was_kept h.of_tallies;
  totals = totals_same (item_rows_before c.args.self.now.items) (item_rows_before c.args.self.now.items) (memo_rows_before c.args.self.now.memos) (memo_rows_before c.args.self.now.memos)
      (tally_rows_before c.args.self.now.tallies) (tally_rows_before c.recount_item.new.tallies) refl refl c.recount_item.ensures.before h.totals;
}
