use Rattle.std.proofs.Common.{Some, rules, subst, arith}
use Rattle.bsp_rows.specs.Rows.{Rows}
use Rattle.bsp_desk_writes.proofs.BillLemmas.{not_admitted, not_billed}
use Rattle.bsp_desk_writes.proofs.closes.bill_if_due.Goals as goal

pub returns-then-is_none : goal.returns-then-is_none
returns-then-is_none g c =
    let a = c.args in
    let e = c.is_none.ensures in
    let i = c.if-is_none.true in
    let kept = not_admitted a.memo.now a.day a.review_days c.billed_now.result c.billed_now.ensures.amount (grind (arith, c.is_none.ensures, c.if-is_none.true)) in
    record {
      ok = λ now last there h. subst (λ (rows : Rows). g.B.Book.means.holds a.book.now rows (Some last)) (not_billed a.memo.now a.period a.day a.review_days now there kept) h;
      fault = search rules;
    }
