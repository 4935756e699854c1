-- Lemmas on single actions and closes.
use Rattle.std.proofs.Common.{◌≡◌, ℕ, Bool, true, false, not, ◌&&◌, ◌||◌, [], ◌∷◌, Ok, Err, is_some, refl, ℤ}
use Rattle.std.specs.Prelude.{Result, Option}
use Rattle.bsp_fields.specs.CivilDay.{CivilDay}
use Rattle.bsp_fields.specs.declared.change.Change.{Change}
use Rattle.bsp_fields.specs.declared.change.Change.TheVariants.{Done, Held}
use Rattle.bsp_memos.specs.declared.fault.MemoFault.{MemoFault}
use Rattle.bsp_memos.specs.declared.fault.MemoFault.TheVariants.{ReviewOver, StateForbids, AmountOutOfRange, CreditMemo}
use Rattle.bsp_memos.specs.declared.fields.MemoFields.{MemoFields}
use Rattle.bsp_memos.specs.declared.kind.MemoKind.{MemoKind}
use Rattle.bsp_memos.specs.declared.kind.MemoKind.TheVariants.{Debit, Credit}
use Rattle.bsp_memos.specs.declared.state.MemoState.{MemoState}
use Rattle.bsp_memos.specs.declared.state.MemoState.TheVariants.{Open, Agreed, Disputed, Upheld, Reduced, Withdrawn}
use Rattle.bsp_memos.specs.FirstAnswer.{first_answer_or}
use Rattle.bsp_memos.specs.States.{is_credit, is_open, is_agreed, is_disputed, is_upheld, is_reduced, is_withdrawn}
use Rattle.bsp_memos.specs.Memos.{kind_fits}
use Rattle.bsp_memos.specs.Steps.{Action, Dispute, Agree, Uphold, Reduce, Withdraw, is_past_review, stands, is_allowed, is_late, amount_is_right, answer_to, left_by}
use Rattle.bsp_memos.specs.Billing.{admits, billed_in}
use Rattle.bsp_memos.specs.Lives.{after_action, KeepsIssue}

-- where a row applies, the memo stays as it is
refused : (credit stood allowed late right : Bool) (action : Action) (memo : MemoFields) → (credit || (stood || (not allowed || (late || not right)))) ≡ true →
    left_by (first_answer_or ((credit, Err CreditMemo) ∷ (stood, Ok Held) ∷ (not allowed, Err StateForbids) ∷ (late, Err ReviewOver) ∷ (not right, Err AmountOutOfRange) ∷ []) (Ok Done)) action memo ≡ memo
refused true stood allowed late right action memo h = refl
refused false true allowed late right action memo h = refl
refused false false false late right action memo h = refl
refused false false true true right action memo h = refl
refused false false true false false action memo h = refl
refused false false true false true action memo h = absurd (cc h)

-- some row applies
abbrev pub IsRefused : Action → MemoFields → CivilDay → ℕ → Type 0
IsRefused action memo day review =
    (is_credit memo.kind || (stands action memo || (not (is_allowed action memo) || (is_late action memo day review || not (amount_is_right action memo))))) ≡ true

pub stays : (review : ℕ) (action : Action) (day : CivilDay) (memo : MemoFields) → IsRefused action memo day review → after_action review action day memo ≡ memo
stays review action day memo h = refused (is_credit memo.kind) (stands action memo) (is_allowed action memo) (is_late action memo day review) (amount_is_right action memo) action memo h

-- a new state, amount or period of billing keeps the issue
pub moved : (memo : MemoFields) (state : MemoState) (amount : ℤ) (billed : Option ℕ) → KeepsIssue memo (record memo { state = state; amount = amount; billed = billed })
moved memo state amount billed = record { airline = refl; document = refl; agent = refl; kind = refl; issued_amount = refl; reason = refl; issued = refl }

-- an answer keeps the issue, and the period of billing
pub issue-left_by : (answer : Result Change MemoFault) (action : Action) (memo : MemoFields) → KeepsIssue memo (left_by answer action memo)
issue-left_by (Ok Done) Dispute memo = moved memo Disputed memo.amount memo.billed
issue-left_by (Ok Done) Agree memo = moved memo Agreed memo.amount memo.billed
issue-left_by (Ok Done) Uphold memo = moved memo Upheld memo.amount memo.billed
issue-left_by (Ok Done) (Reduce amount) memo = moved memo Reduced amount memo.billed
issue-left_by (Ok Done) Withdraw memo = moved memo Withdrawn memo.amount memo.billed
issue-left_by (Ok Held) action memo = moved memo memo.state memo.amount memo.billed
issue-left_by (Err fault) action memo = moved memo memo.state memo.amount memo.billed

pub billed-left_by : (answer : Result Change MemoFault) (action : Action) (memo : MemoFields) → (left_by answer action memo).billed ≡ memo.billed
billed-left_by (Ok Done) Dispute memo = refl
billed-left_by (Ok Done) Agree memo = refl
billed-left_by (Ok Done) Uphold memo = refl
billed-left_by (Ok Done) (Reduce amount) memo = refl
billed-left_by (Ok Done) Withdraw memo = refl
billed-left_by (Ok Held) action memo = refl
billed-left_by (Err fault) action memo = refl

-- no action changes the memo: a credit memo, or a billed one that is not disputed
abbrev pub is_settled : MemoKind → MemoState → Bool → Bool
is_settled kind state billed = is_credit kind || (billed && not (is_disputed state))

settled_dispute : (kind : MemoKind) (state : MemoState) (billed past : Bool) → is_settled kind state billed ≡ true →
    (is_credit kind || (is_disputed state || (not (is_open state) || ((billed || past) || not true)))) ≡ true
settled_dispute Credit state billed past h = refl
settled_dispute Debit Open true past h = refl
settled_dispute Debit Open false past h = absurd (cc h)
settled_dispute Debit Agreed billed past h = refl
settled_dispute Debit Disputed billed past h = refl
settled_dispute Debit Upheld billed past h = refl
settled_dispute Debit Reduced billed past h = refl
settled_dispute Debit Withdrawn billed past h = refl

settled_agree : (kind : MemoKind) (state : MemoState) (billed past : Bool) → is_settled kind state billed ≡ true →
    (is_credit kind || (is_agreed state || (not (is_open state) || ((billed || past) || not true)))) ≡ true
settled_agree Credit state billed past h = refl
settled_agree Debit Open true past h = refl
settled_agree Debit Open false past h = absurd (cc h)
settled_agree Debit Agreed billed past h = refl
settled_agree Debit Disputed billed past h = refl
settled_agree Debit Upheld billed past h = refl
settled_agree Debit Reduced billed past h = refl
settled_agree Debit Withdrawn billed past h = refl

settled_after_dispute : (kind : MemoKind) (state : MemoState) (billed stood right : Bool) → is_settled kind state billed ≡ true →
    (is_credit kind || (stood || (not (is_disputed state) || (false || not right)))) ≡ true
settled_after_dispute Credit state billed stood right h = refl
settled_after_dispute Debit Disputed true stood right h = absurd (cc h)
settled_after_dispute Debit Disputed false stood right h = absurd (cc h)
settled_after_dispute Debit Open billed true right h = refl
settled_after_dispute Debit Open billed false right h = refl
settled_after_dispute Debit Agreed billed true right h = refl
settled_after_dispute Debit Agreed billed false right h = refl
settled_after_dispute Debit Upheld billed true right h = refl
settled_after_dispute Debit Upheld billed false right h = refl
settled_after_dispute Debit Reduced billed true right h = refl
settled_after_dispute Debit Reduced billed false right h = refl
settled_after_dispute Debit Withdrawn billed true right h = refl
settled_after_dispute Debit Withdrawn billed false right h = refl

settled_withdraw : (kind : MemoKind) (state : MemoState) (billed : Bool) → is_settled kind state billed ≡ true →
    (is_credit kind || (is_withdrawn state || (not ((is_open state || is_disputed state) && not billed) || (false || not true)))) ≡ true
settled_withdraw Credit state billed h = refl
settled_withdraw Debit Open true h = refl
settled_withdraw Debit Open false h = absurd (cc h)
settled_withdraw Debit Agreed billed h = refl
settled_withdraw Debit Disputed true h = absurd (cc h)
settled_withdraw Debit Disputed false h = absurd (cc h)
settled_withdraw Debit Upheld billed h = refl
settled_withdraw Debit Reduced billed h = refl
settled_withdraw Debit Withdrawn billed h = refl

pub settled_stays : (review : ℕ) (action : Action) (day : CivilDay) (memo : MemoFields) → is_settled memo.kind memo.state (is_some memo.billed) ≡ true → after_action review action day memo ≡ memo
settled_stays review Dispute day memo h = stays review Dispute day memo (settled_dispute memo.kind memo.state (is_some memo.billed) (is_past_review memo day review) h)
settled_stays review Agree day memo h = stays review Agree day memo (settled_agree memo.kind memo.state (is_some memo.billed) (is_past_review memo day review) h)
settled_stays review Uphold day memo h = stays review Uphold day memo (settled_after_dispute memo.kind memo.state (is_some memo.billed) (stands Uphold memo) true h)
settled_stays review (Reduce amount) day memo h = stays review (Reduce amount) day memo (settled_after_dispute memo.kind memo.state (is_some memo.billed) (stands (Reduce amount) memo) (amount_is_right (Reduce amount) memo) h)
settled_stays review Withdraw day memo h = stays review Withdraw day memo (settled_withdraw memo.kind memo.state (is_some memo.billed) h)

-- no action changes a withdrawn debit memo
pub withdrawn_stays : (review : ℕ) (action : Action) (day : CivilDay) (memo : MemoFields) → memo.state ≡ Withdrawn → memo.kind ≡ Debit → after_action review action day memo ≡ memo
withdrawn_stays review Dispute day memo s k = stays review Dispute day memo (rw (k, s) refl)
withdrawn_stays review Agree day memo s k = stays review Agree day memo (rw (k, s) refl)
withdrawn_stays review Uphold day memo s k = stays review Uphold day memo (rw (k, s) refl)
withdrawn_stays review (Reduce amount) day memo s k = stays review (Reduce amount) day memo (rw (k, s) refl)
withdrawn_stays review Withdraw day memo s k = stays review Withdraw day memo (rw (k, s) refl)

-- a memo that a close admits is settled once it is billed
admitted_tests : (kind : MemoKind) (state : MemoState) (unbilled past : Bool) →
    (unbilled && (is_credit kind || (is_agreed state || (is_upheld state || is_reduced state)) || (is_open state && past))) ≡ true → is_settled kind state true ≡ true
admitted_tests Credit state unbilled past h = refl
admitted_tests Debit Disputed true past h = absurd (cc h)
admitted_tests Debit Disputed false past h = absurd (cc h)
admitted_tests Debit Open unbilled past h = refl
admitted_tests Debit Agreed unbilled past h = refl
admitted_tests Debit Upheld unbilled past h = refl
admitted_tests Debit Reduced unbilled past h = refl
admitted_tests Debit Withdrawn unbilled past h = refl

pub admitted_settles : (review period : ℕ) (day : CivilDay) (memo : MemoFields) → admits memo day review ≡ true →
    is_settled (billed_in period memo).kind (billed_in period memo).state (is_some (billed_in period memo).billed) ≡ true
admitted_settles review period day memo h = admitted_tests memo.kind memo.state (not (is_some memo.billed)) (is_past_review memo day review) h

-- a memo that a close admits is neither disputed nor withdrawn
admitted_state : (kind : MemoKind) (state : MemoState) (unbilled past : Bool) → (not (is_credit kind) || is_open state) ≡ true →
    (unbilled && (is_credit kind || (is_agreed state || (is_upheld state || is_reduced state)) || (is_open state && past))) ≡ true → (is_disputed state || is_withdrawn state) ≡ false
admitted_state kind Open unbilled past k h = refl
admitted_state kind Agreed unbilled past k h = refl
admitted_state kind Upheld unbilled past k h = refl
admitted_state kind Reduced unbilled past k h = refl
admitted_state Credit Disputed unbilled past k h = absurd (cc k)
admitted_state Credit Withdrawn unbilled past k h = absurd (cc k)
admitted_state Debit Disputed true past k h = absurd (cc h)
admitted_state Debit Disputed false past k h = absurd (cc h)
admitted_state Debit Withdrawn true past k h = absurd (cc h)
admitted_state Debit Withdrawn false past k h = absurd (cc h)

pub admitted_stands : (review : ℕ) (day : CivilDay) (memo : MemoFields) → kind_fits memo ≡ true → admits memo day review ≡ true → (is_disputed memo.state || is_withdrawn memo.state) ≡ false
admitted_stands review day memo k h = admitted_state memo.kind memo.state (not (is_some memo.billed)) (is_past_review memo day review) k h

-- an action keeps that a credit memo stays open
pub kind_fits-after_action : (review : ℕ) (action : Action) (day : CivilDay) (memo : MemoFields) → kind_fits memo ≡ true → kind_fits (after_action review action day memo) ≡ true
kind_fits-after_action review action day memo h = by_kind memo.kind refl where
  by_kind : (kind : MemoKind) → memo.kind ≡ kind → kind_fits (after_action review action day memo) ≡ true
  by_kind Credit k = (let settled : is_settled memo.kind memo.state (is_some memo.billed) ≡ true = rw k refl in rw (settled_stays review action day memo settled) h)
  by_kind Debit k = rw ((issue-left_by (answer_to memo action day review) action memo).kind, k) refl
