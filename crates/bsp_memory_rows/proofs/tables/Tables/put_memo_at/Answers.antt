use Rattle.std.proofs.Common.{◌++◌, ap, refl, sym, subst, Option}
use Rattle.std.specs.FinMap.{FinMap, insert}
use Rattle.std.specs.Option.{option_to_list}
use Rattle.bsp_rows.specs.MemoFields.{MemoFields}
use Rattle.bsp_memory_tables.specs.ItemTables.{item_rows, item_rows_before}
use Rattle.bsp_memory_tables.specs.MemoTables.{memo_rows, memo_rows_before}
use Rattle.bsp_memory_tables.specs.TallyTables.{tally_rows, tally_rows_before}
use Rattle.bsp_rows.specs.Rows.{Rows, memo_cmp}
use Rattle.bsp_memory_rows.specs.Kept.{AreAddedUp}
use Rattle.bsp_memory_rows.specs.Tables.{committed_rows, rows_of}
use Rattle.bsp_memory_rows.proofs.DerivedLemmas.{memo_totals, totals_same}
use Rattle.bsp_memory_rows.proofs.tables.Tables.put_memo_at.Goals as goal

pub returns-clause-derived : goal.returns-clause-derived
returns-clause-derived c = λ h.
    let key = c.args.key.now in
    let memo = c.args.memo.now in
    let items = item_rows c.args.self.now.items in
    let memos = memo_rows c.args.self.now.memos in
    let tallies = tally_rows c.args.self.now.tallies in
    let next = tally_rows c.recount_memo.new.tallies in
    record {
      of_ranges = h.of_ranges;
      of_items = h.of_items;
      of_memos = c.in_ok-put.ensures.kept h.of_memos;
      of_tallies = c.in_ok-recount_memo.ensures.kept h.of_tallies;
      totals = totals_same items items (insert memos key memo) (memo_rows c.put.new.self) next next refl c.in_ok-put.ensures.rows refl
          (memo_totals items memos tallies next key memo
          (λ is others before. c.in_ok-recount_memo.ensures.ok is others (subst (λ (o : Option MemoFields). AreAddedUp is (option_to_list o ++ others) tallies) (sym c.get-old.ensures) before)) h.totals);
    }

with_memos : Rows → FinMap memo_cmp MemoFields → Rows
with_memos rows memos = record rows { memos = memos }

pub returns-clause-ok : goal.returns-clause-ok
unfolding with_memos
returns-clause-ok c = ap (with_memos (rows_of c.args.self.now)) c.in_ok-put.ensures.rows

pub returns-clause-committed : goal.returns-clause-committed
unfolding with_memos
returns-clause-committed c = ap (with_memos (committed_rows c.args.self.now)) c.put.ensures.before

pub returns-in_err-put-clause-committed : goal.returns-in_err-put-clause-committed
unfolding with_memos
returns-in_err-put-clause-committed c = ap (with_memos (committed_rows c.args.self.now)) c.put.ensures.before

pub returns-clause-was_derived : goal.returns-clause-was_derived
returns-clause-was_derived c = λ h. record {
  of_ranges = h.of_ranges;
  of_items = h.of_items;
  of_memos = c.put.ensures.was_kept h.of_memos;
  of_tallies = c.recount_memo.ensures.was_kept h.of_tallies;
  totals = totals_same (item_rows_before c.args.self.now.items) (item_rows_before c.args.self.now.items) (memo_rows_before c.args.self.now.memos) (memo_rows_before c.put.new.self)
      (tally_rows_before c.args.self.now.tallies) (tally_rows_before c.recount_memo.new.tallies) refl c.put.ensures.before c.recount_memo.ensures.before h.totals;
}

pub returns-in_err-put-clause-was_derived : goal.returns-in_err-put-clause-was_derived
returns-in_err-put-clause-was_derived c = λ h. record {
  of_ranges = h.of_ranges;
  of_items = h.of_items;
  of_memos = c.put.ensures.was_kept h.of_memos;
  of_tallies = c.recount_memo.ensures.was_kept h.of_tallies;
  totals = totals_same (item_rows_before c.args.self.now.items) (item_rows_before c.args.self.now.items) (memo_rows_before c.args.self.now.memos) (memo_rows_before c.put.new.self)
      (tally_rows_before c.args.self.now.tallies) (tally_rows_before c.recount_memo.new.tallies) refl c.put.ensures.before c.recount_memo.ensures.before h.totals;
}

pub returns-in_err-recount_memo-clause-was_derived : goal.returns-in_err-recount_memo-clause-was_derived
returns-in_err-recount_memo-clause-was_derived c = λ h. record {
  of_ranges = h.of_ranges;
  of_items = h.of_items;
  of_memos = h.of_memos;
  of_tallies = c.recount_memo.ensures.was_kept h.of_tallies;
  totals = totals_same (item_rows_before c.args.self.now.items) (item_rows_before c.args.self.now.items) (memo_rows_before c.args.self.now.memos) (memo_rows_before c.args.self.now.memos)
      (tally_rows_before c.args.self.now.tallies) (tally_rows_before c.recount_memo.new.tallies) refl refl c.recount_memo.ensures.before h.totals;
}
