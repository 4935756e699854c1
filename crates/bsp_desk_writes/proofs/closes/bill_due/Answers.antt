use Rattle.std.proofs.Common.{◌≡◌, ◌+◌, ◌<◌, ◌∷◌, Some, [], List, ℕ, rules, subst, sym, ap, ◌∙◌, drop, get_or, length}
use Rattle.std.proofs.lemmas.List.{at_drop_more, drop_all}
use Rattle.bsp_memos.specs.declared.fields.MemoFields.{MemoFields}
use Rattle.bsp_office_spec.specs.Ledger.{review_of}
use Rattle.bsp_desk_writes.proofs.BillLemmas.{IsBilling, begun, continued, finished}
use Rattle.bsp_desk_writes.proofs.closes.bill_due.Goals as goal

drop_here : {X : Type 0} (xs : List X) (i : ℕ) (x : X) → i < length xs → x ≡ get_or xs i x → drop i xs ≡ x ∷ drop (i + 1) xs
drop_here {X = X} xs i x h is = at_drop_more (λ (ys : List X). ys) xs i x h ∙ ap (λ (y : X). y ∷ drop (i + 1) xs) (sym is)

pub loop-memo-init : goal.loop-memo-init
loop-memo-init g c =
    let m = g.B.Book.means in
    let look = c.in_ok-memos.ensures in
    record {
      trust = look.fault.trust;
      works = search rules;
      billed = λ t now last s h.
          let kept = look.ok now (Some last) h in
          begun m now last c.review_days-review_days.result c.args.period c.day-day.result c.memos.new.self c.deref-memo-items.result.now s
          (c.deref-memo-items.ensures.value ∙ look.found t now (Some last) h)
          (c.day-day.ensures ∙ ap (λ p. p.day) (c.plan.ensures t now (Some last) kept))
          (c.review_days-review_days.ensures ∙ ap review_of (c.terms.ensures ∙ ap (λ p. p.terms) (c.plan-2.ensures t now (Some last) kept)))
          kept;
    }

pub loop-memo-preserved : goal.loop-memo-preserved
loop-memo-preserved g c =
    let m = g.B.Book.means in
    let i = c.loop-memo in
    let memos = c.deref-memo-items.result.now in
    let memo : MemoFields = c.memo-item.result in
    let done = c.in_ok-bill_if_due.ensures in
    let here : drop i.memo-index memos ≡ memo ∷ drop (i.memo-index + 1) memos = drop_here memos i.memo-index memo c.loop-memo-test.true c.memo-item.is in
    record {
      trust = λ t. i.invariant.trust (done.fault.trust t);
      works = search rules;
      billed = λ t now last s h.
          let before = i.invariant.billed (done.fault.trust t) now last s h in
          let B : List MemoFields → Type 0 = λ rest. IsBilling m i.book now last c.review_days-review_days.result c.args.period c.day-day.result rest in
          continued m now last c.review_days-review_days.result c.args.period c.day-day.result i.book c.bill_if_due.new.book memo (drop (i.memo-index + 1) memos) (subst B here before) done.ok;
    }

pub returns-clause-billed : goal.returns-clause-billed
returns-clause-billed g c = λ t now last s h.
    let m = g.B.Book.means in
    let i = c.loop-memo in
    let memos = c.deref-memo-items.result.now in
    let none : drop i.memo-index memos ≡ [] = drop_all i.memo-index memos c.loop-memo-test.false in
    let B : List MemoFields → Type 0 = λ rest. IsBilling m i.book now last c.review_days-review_days.result c.args.period c.day-day.result rest in
    (tt, finished m now last c.review_days-review_days.result c.args.period c.day-day.result i.book (subst B none (i.invariant.billed t now last s h)))
