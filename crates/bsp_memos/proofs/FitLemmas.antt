-- An action or a close leaves a memo whose fields fit together.
use Rattle.std.proofs.Common.{◌≡◌, ℕ, ℤ, pos, Bool, true, false, not, ◌&&◌, ◌||◌, List, [], ◌∷◌, is_some, Result, Ok, Err, refl, sym, ap, subst, ◌∙◌, arith, if◌then◌else◌, int_le, int_lt}
use Rattle.std.specs.Ordering.{int_eq}
use Rattle.std.proofs.lemmas.Int.{ints}
use Rattle.std.proofs.lemmas.Bool.{and_parts, and_from, or_parts, or_right, not-false}
use Rattle.std.proofs.lemmas.Bool.Decides.{Decides-int_eq}
use Rattle.bsp_fields.specs.CivilDay.{CivilDay}
use Rattle.bsp_fields.specs.declared.change.Change.{Change}
use Rattle.bsp_fields.specs.declared.change.Change.TheVariants.{Done, Held}
use Rattle.bsp_memos.specs.declared.fault.MemoFault.{MemoFault}
use Rattle.bsp_memos.specs.declared.fault.MemoFault.TheVariants.{ReviewOver, StateForbids, AmountOutOfRange, CreditMemo}
use Rattle.bsp_memos.specs.declared.fields.MemoFields.{MemoFields}
use Rattle.bsp_memos.specs.declared.state.MemoState.{MemoState}
use Rattle.bsp_memos.specs.declared.state.MemoState.TheVariants.{Open, Agreed, Disputed, Upheld, Reduced, Withdrawn}
use Rattle.bsp_memos.specs.FirstAnswer.{first_answer_or}
use Rattle.bsp_memos.specs.States.{is_credit, is_open, is_disputed, is_reduced, is_withdrawn}
use Rattle.bsp_memos.specs.Memos.{is_memo, is_amount, amount_fits, kind_fits, billing_fits}
use Rattle.bsp_memos.specs.Steps.{Action, Dispute, Agree, Uphold, Reduce, Withdraw, is_past_review, stands, is_allowed, is_late, amount_is_right, answer_to, left_by, after}
use Rattle.bsp_memos.specs.Billing.{admits, billed_in}
use Rattle.bsp_memos.specs.Lives.{after_action}
use Rattle.bsp_memos.proofs.StepLemmas.{kind_fits-after_action, admitted_stands}

-- ---- an action that is done

-- no row of the table applies
record IsDone (memo : MemoFields) (action : Action) (day : CivilDay) (review : ℕ) : Type 0 where
  allowed : is_allowed action memo ≡ true
  early : is_late action memo day review ≡ false
  right : amount_is_right action memo ≡ true

answered : (test : Bool) (x : Result Change MemoFault) (more : List (Bool × Result Change MemoFault)) → (x ≡ Ok Done → ⊥) → first_answer_or ((test, x) ∷ more) (Ok Done) ≡ Ok Done →
    (test ≡ false) × (first_answer_or more (Ok Done) ≡ Ok Done)
answered true x more never h = absurd (never h)
answered false x more never h = (refl, h)

not_done : (e : MemoFault) → ◌≡◌ {A = Result Change MemoFault} (Err e) (Ok Done) → ⊥
not_done e h = absurd (cc h)

not_held : ◌≡◌ {A = Result Change MemoFault} (Ok Held) (Ok Done) → ⊥
not_held h = absurd (cc h)

done : (memo : MemoFields) (action : Action) (day : CivilDay) (review : ℕ) → answer_to memo action day review ≡ Ok Done → IsDone memo action day review
done memo action day review h =
    let r4 : List (Bool × Result Change MemoFault) = (not (amount_is_right action memo), Err AmountOutOfRange) ∷ [] in
    let r3 : List (Bool × Result Change MemoFault) = (is_late action memo day review, Err ReviewOver) ∷ r4 in
    let r2 : List (Bool × Result Change MemoFault) = (not (is_allowed action memo), Err StateForbids) ∷ r3 in
    let r1 : List (Bool × Result Change MemoFault) = (stands action memo, Ok Held) ∷ r2 in
    let a = answered (is_credit memo.kind) (Err CreditMemo) r1 (not_done CreditMemo) h in
    let b = answered (stands action memo) (Ok Held) r2 not_held a.1 in
    let c = answered (not (is_allowed action memo)) (Err StateForbids) r3 (not_done StateForbids) b.1 in
    let d = answered (is_late action memo day review) (Err ReviewOver) r4 (not_done ReviewOver) c.1 in
    let e = answered (not (amount_is_right action memo)) (Err AmountOutOfRange) [] (not_done AmountOutOfRange) d.1 in
    record { allowed = not-false _ c.0; early = d.0; right = not-false _ e.0 }

-- ---- the amounts

undecided_whole : (s : MemoState) → (is_open s || is_disputed s) ≡ true → is_reduced s ≡ false
undecided_whole Open h = refl
undecided_whole Agreed h = absurd (cc h)
undecided_whole Disputed h = refl
undecided_whole Upheld h = absurd (cc h)
undecided_whole Reduced h = absurd (cc h)
undecided_whole Withdrawn h = absurd (cc h)

open_whole : (s : MemoState) → is_open s ≡ true → is_reduced s ≡ false
open_whole s h = undecided_whole s (ap (λ b. b || is_disputed s) h)

disputed_whole : (s : MemoState) → is_disputed s ≡ true → is_reduced s ≡ false
disputed_whole s h = undecided_whole s (or_right (is_open s) (is_disputed s) h)

-- a memo that is not reduced has its amount as issued
whole : (memo : MemoFields) → is_reduced memo.state ≡ false → amount_fits memo ≡ true → (is_amount memo.amount && is_amount memo.issued_amount && int_eq memo.amount memo.issued_amount) ≡ true
whole memo r fit = sym (ap (λ b. is_amount memo.amount && is_amount memo.issued_amount && (if b then int_lt memo.amount memo.issued_amount else int_eq memo.amount memo.issued_amount)) r) ∙ fit

below_most : (amount old most : ℤ) → int_lt amount old ≡ true → int_le old most ≡ true → int_le amount most ≡ true
below_most amount old most h k = grind (arith, ints)

reduced : (memo : MemoFields) (amount : ℤ) → (int_le (pos 1) amount && int_lt amount memo.amount) ≡ true →
    (is_amount memo.amount && is_amount memo.issued_amount && int_eq memo.amount memo.issued_amount) ≡ true →
    (is_amount amount && is_amount memo.issued_amount && int_lt amount memo.issued_amount) ≡ true
reduced memo amount right fit =
    let r = and_parts (int_le (pos 1) amount) (int_lt amount memo.amount) right in
    let f = and_parts (is_amount memo.amount && is_amount memo.issued_amount) (int_eq memo.amount memo.issued_amount) fit in
    let both = and_parts (is_amount memo.amount) (is_amount memo.issued_amount) f.0 in
    let most = (and_parts (int_le (pos 1) memo.amount) (int_le memo.amount (pos 99999999999)) both.0).1 in
    let same : memo.amount ≡ memo.issued_amount = (Decides-int_eq memo.amount memo.issued_amount).0 f.1 in
    let within : is_amount amount ≡ true = and_from (int_le (pos 1) amount) (int_le amount (pos 99999999999)) r.0 (below_most amount memo.amount (pos 99999999999) r.1 most) in
    and_from (is_amount amount && is_amount memo.issued_amount) (int_lt amount memo.issued_amount) (and_from (is_amount amount) (is_amount memo.issued_amount) within both.1)
    (subst (λ (z : ℤ). int_lt amount z ≡ true) same r.1)

amount_after : (memo : MemoFields) (action : Action) (day : CivilDay) (review : ℕ) → amount_fits memo ≡ true → IsDone memo action day review → amount_fits (after action memo) ≡ true
amount_after memo Dispute day review fit d = whole memo (open_whole memo.state d.allowed) fit
amount_after memo Agree day review fit d = whole memo (open_whole memo.state d.allowed) fit
amount_after memo Uphold day review fit d = whole memo (disputed_whole memo.state d.allowed) fit
amount_after memo (Reduce amount) day review fit d = reduced memo amount d.right (whole memo (disputed_whole memo.state d.allowed) fit)
amount_after memo Withdraw day review fit d = whole memo (undecided_whole memo.state (and_parts (is_open memo.state || is_disputed memo.state) (not (is_some memo.billed)) d.allowed).0) fit

-- ---- the period of billing

billing_after : (memo : MemoFields) (action : Action) (day : CivilDay) (review : ℕ) → IsDone memo action day review → billing_fits (after action memo) ≡ true
billing_after memo Dispute day review d = ap (λ b. not b || false) (or_parts (is_some memo.billed) (is_past_review memo day review) d.early).0
billing_after memo Agree day review d = or_right (not (is_some memo.billed)) true refl
billing_after memo Uphold day review d = or_right (not (is_some memo.billed)) true refl
billing_after memo (Reduce amount) day review d = or_right (not (is_some memo.billed)) true refl
billing_after memo Withdraw day review d = ap (λ b. b || false) (and_parts (is_open memo.state || is_disputed memo.state) (not (is_some memo.billed)) d.allowed).1

-- ---- all fields

fits_by : (memo : MemoFields) (action : Action) (day : CivilDay) (review : ℕ) (r : Result Change MemoFault) → answer_to memo action day review ≡ r → is_memo memo ≡ true →
    kind_fits (left_by r action memo) ≡ true → is_memo (left_by r action memo) ≡ true
fits_by memo action day review (Ok Done) is fit kind =
    let d = done memo action day review is in
    and_from (amount_fits (after action memo)) (kind_fits (after action memo) && billing_fits (after action memo)) (amount_after memo action day review (and_parts (amount_fits memo) (kind_fits memo && billing_fits memo) fit).0 d)
    (and_from (kind_fits (after action memo)) (billing_fits (after action memo)) kind (billing_after memo action day review d))
fits_by memo action day review (Ok Held) is fit kind = fit
fits_by memo action day review (Err fault) is fit kind = fit

pub is_memo-after_action : (review : ℕ) (action : Action) (day : CivilDay) (memo : MemoFields) → is_memo memo ≡ true → is_memo (after_action review action day memo) ≡ true
is_memo-after_action review action day memo fit =
    fits_by memo action day review (answer_to memo action day review) refl fit
    (kind_fits-after_action review action day memo (and_parts (kind_fits memo) (billing_fits memo) (and_parts (amount_fits memo) (kind_fits memo && billing_fits memo) fit).1).0)

-- a memo that a close admits
pub is_memo-billed_in : (review period : ℕ) (day : CivilDay) (memo : MemoFields) → is_memo memo ≡ true → admits memo day review ≡ true → is_memo (billed_in period memo) ≡ true
is_memo-billed_in review period day memo fit h =
    let a = and_parts (amount_fits memo) (kind_fits memo && billing_fits memo) fit in
    let b = and_parts (kind_fits memo) (billing_fits memo) a.1 in
    let c : (is_disputed memo.state || is_withdrawn memo.state) ≡ false = admitted_stands review day memo b.0 h in
    and_from (amount_fits memo) (kind_fits memo && billing_fits (billed_in period memo)) a.0 (and_from (kind_fits memo) (billing_fits (billed_in period memo)) b.0 (ap not c))
