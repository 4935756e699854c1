-- What an action is answered, by the first row that applies, and how it leaves the memo.
use Rattle.std.proofs.Common.{◌≡◌, ℕ, true, false, Ok, Err, refl}
use Rattle.bsp_fields.specs.CivilDay.{CivilDay}
use Rattle.bsp_fields.specs.declared.change.Change.TheVariants.{Done, Held}
use Rattle.bsp_memos.specs.declared.fault.MemoFault.TheVariants.{ReviewOver, StateForbids, CreditMemo}
use Rattle.bsp_memos.specs.declared.fields.MemoFields.{MemoFields}
use Rattle.bsp_memos.specs.declared.state.MemoState.{MemoState}
use Rattle.bsp_memos.specs.declared.state.MemoState.TheVariants.{Open, Agreed, Disputed}
use Rattle.bsp_memos.specs.States.{is_credit, is_open, is_agreed, is_disputed}
use Rattle.bsp_memos.specs.Steps.{Action, MemoStep, after, amount_is_right, is_allowed, is_late, stands}

-- ---- states

pub not_open : (state : MemoState) → (state ≡ Open → ⊥) → is_open state ≡ false
not_open Open h = absurd (h refl)
not_open _ h = refl

pub not_agreed : (state : MemoState) → (state ≡ Agreed → ⊥) → is_agreed state ≡ false
not_agreed Agreed h = absurd (h refl)
not_agreed _ h = refl

pub not_disputed : (state : MemoState) → (state ≡ Disputed → ⊥) → is_disputed state ≡ false
not_disputed Disputed h = absurd (h refl)
not_disputed _ h = refl

-- ---- answers

pub credit_step : (memo : MemoFields) (action : Action) (day : CivilDay) (review : ℕ) → is_credit memo.kind ≡ true → MemoStep memo action day review (Err CreditMemo) memo
credit_step memo action day review credit = record { told = rw credit refl; left = refl }

pub held_step : (memo : MemoFields) (action : Action) (day : CivilDay) (review : ℕ) → is_credit memo.kind ≡ false → stands action memo ≡ true → MemoStep memo action day review (Ok Held) memo
held_step memo action day review debit stood = record { told = rw (debit, stood) refl; left = refl }

pub forbidden_step : (memo : MemoFields) (action : Action) (day : CivilDay) (review : ℕ) → is_credit memo.kind ≡ false → stands action memo ≡ false → is_allowed action memo ≡ false → MemoStep memo action day review (Err StateForbids) memo
forbidden_step memo action day review debit open_yet forbidden = record { told = rw (debit, open_yet, forbidden) refl; left = refl }

pub late_step : (memo : MemoFields) (action : Action) (day : CivilDay) (review : ℕ) → is_credit memo.kind ≡ false → stands action memo ≡ false → is_allowed action memo ≡ true → is_late action memo day review ≡ true → MemoStep memo action day review (Err ReviewOver) memo
late_step memo action day review debit open_yet allowed late = record { told = rw (debit, open_yet, allowed, late) refl; left = refl }

pub done_step : (memo : MemoFields) (action : Action) (day : CivilDay) (review : ℕ) → is_credit memo.kind ≡ false → stands action memo ≡ false → is_allowed action memo ≡ true → is_late action memo day review ≡ false → amount_is_right action memo ≡ true
    → MemoStep memo action day review (Ok Done) (after action memo)
done_step memo action day review debit open_yet allowed in_time right = record { told = rw (debit, open_yet, allowed, in_time, right) refl; left = refl }
