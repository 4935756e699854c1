-- The billing of memos.
use Rattle.std.specs.Prelude.{ℕ, Bool, not, ◌&&◌, ◌||◌, if◌then◌else◌, ℤ, is_some, Option, Some, None}
use Rattle.bsp_fields.specs.CivilDay.{CivilDay}
use Rattle.bsp_memos.specs.declared.fields.MemoFields.{MemoFields}
use Rattle.bsp_memos.specs.States.{is_credit, is_open, is_agreed, is_disputed, is_upheld, is_reduced, is_withdrawn}
use Rattle.bsp_memos.specs.Steps.{is_past_review}

-- a close on this day may bill the memo: a credit memo, or a debit memo that is agreed, upheld, reduced, or open with its review past
abbrev pub is_due : MemoFields → CivilDay → ℕ → Bool
is_due memo day review =
    is_credit memo.kind
    || (is_agreed memo.state || (is_upheld memo.state || is_reduced memo.state))
    || (is_open memo.state && is_past_review memo day review)

-- a close on this day bills the memo: it is unbilled and due
abbrev pub admits : MemoFields → CivilDay → ℕ → Bool
admits memo day review = not (is_some memo.billed) && is_due memo day review

-- it is billed, and a close on this day would bill it, were it unbilled
abbrev pub is_rightly_billed : MemoFields → CivilDay → ℕ → Bool
is_rightly_billed memo day review = is_some memo.billed && is_due memo day review

-- the amount that a close on this day bills
abbrev pub amount_due : MemoFields → CivilDay → ℕ → Option ℤ
amount_due memo day review = if admits memo day review then Some memo.amount else None

-- some close may bill it
abbrev pub may_be_billed : MemoFields → Bool
may_be_billed memo = not (is_some memo.billed) && not (is_disputed memo.state || is_withdrawn memo.state)

-- the memo once it is billed; all else stays
abbrev pub billed_in : ℕ → MemoFields → MemoFields
billed_in period memo = record memo { billed = Some period }
