use Rattle.std.proofs.Common.{◌≡◌, false, drop, Some}
use Rattle.bsp_rows.specs.Rows.{Rows}
use Rattle.bsp_rows.specs.Sound.{Sound}
use Rattle.bsp_desk_writes.proofs.BillLemmas.{IsBilling}
use Rattle.bsp_desk_writes.proofs.closes.bill_due.Given as goal

abbrev pub invariant-loop-memo : goal.invariant-loop-memo
invariant-loop-memo g l =
    let m = g.B.Book.means in
    record {
      trust : m.trusts l.book → m.trusts l.fn.book;
      works : m.has_failed l.book ≡ false;
      billed : m.trusts l.book → (now last : Rows) → Sound now → m.holds l.fn.book now (Some last) → IsBilling m l.book now last l.review_days l.period l.day (drop l.memo-index l.memo-items);
    }
