-- What an agent and an airline may do about a memo (in the manner of IATA Resolution 850m).
use Rattle.std.specs.Prelude.{◌≡◌, ℕ, Bool, true, false, not, ◌&&◌, ◌||◌, [], ◌∷◌, ℤ, pos, ◌+ℤ◌, int_le, int_lt, is_some, Result, Ok, Err}
use Rattle.std.specs.Ordering.{int_eq}
use Rattle.bsp_fields.specs.CivilDay.{CivilDay}
use Rattle.bsp_fields.specs.Days.{day_number}
use Rattle.bsp_fields.specs.declared.change.Change.{Change}
use Rattle.bsp_fields.specs.declared.change.Change.TheVariants.{Done, Held}
use Rattle.bsp_memos.specs.declared.fault.MemoFault.{MemoFault}
use Rattle.bsp_memos.specs.declared.fault.MemoFault.TheVariants.{ReviewOver, StateForbids, AmountOutOfRange, CreditMemo}
use Rattle.bsp_memos.specs.declared.fields.MemoFields.{MemoFields}
use Rattle.bsp_memos.specs.declared.state.MemoState.TheVariants.{Agreed, Disputed, Upheld, Reduced, Withdrawn}
use Rattle.bsp_memos.specs.FirstAnswer.{first_answer_or}
use Rattle.bsp_memos.specs.States.{is_credit, is_open, is_agreed, is_disputed, is_upheld, is_reduced, is_withdrawn}

-- the first two are the agent's, the others the airline's
pub data Action : Type 0 where
  Dispute : Action
  Agree : Action
  Uphold : Action
  Reduce : (amount : ℤ) → Action
  Withdraw : Action

-- the last review day lies before the day
abbrev pub is_past_review : MemoFields → CivilDay → ℕ → Bool
is_past_review memo day review = int_lt (day_number memo.issued +ℤ pos review) (day_number day)

-- the result of the action already stands
abbrev pub stands : Action → MemoFields → Bool
stands Dispute memo = is_disputed memo.state
stands Agree memo = is_agreed memo.state
stands Uphold memo = is_upheld memo.state
stands (Reduce amount) memo = is_reduced memo.state && int_eq memo.amount amount
stands Withdraw memo = is_withdrawn memo.state

-- the state allows the action; a withdrawal also needs that the memo is not billed
abbrev pub is_allowed : Action → MemoFields → Bool
is_allowed Dispute memo = is_open memo.state
is_allowed Agree memo = is_open memo.state
is_allowed Uphold memo = is_disputed memo.state
is_allowed (Reduce amount) memo = is_disputed memo.state
is_allowed Withdraw memo = (is_open memo.state || is_disputed memo.state) && not (is_some memo.billed)

-- the action comes too late: the agent acts until the last review day, and not on a billed memo
abbrev pub is_late : Action → MemoFields → CivilDay → ℕ → Bool
is_late Dispute memo day review = is_some memo.billed || is_past_review memo day review
is_late Agree memo day review = is_some memo.billed || is_past_review memo day review
is_late _ memo day review = false

-- a new amount is from 1 to below the old one
abbrev pub amount_is_right : Action → MemoFields → Bool
amount_is_right (Reduce amount) memo = int_le (pos 1) amount && int_lt amount memo.amount
amount_is_right _ memo = true

-- the answer to an action: the first row that applies
abbrev pub answer_to : MemoFields → Action → CivilDay → ℕ → Result Change MemoFault
answer_to memo action day review =
    first_answer_or
    ((is_credit memo.kind, Err CreditMemo)
    ∷ (stands action memo, Ok Held)
    ∷ (not (is_allowed action memo), Err StateForbids)
    ∷ (is_late action memo day review, Err ReviewOver)
    ∷ (not (amount_is_right action memo), Err AmountOutOfRange)
    ∷ [])
    (Ok Done)

-- the memo once the action is done; all else stays
abbrev pub after : Action → MemoFields → MemoFields
after Dispute memo = record memo { state = Disputed }
after Agree memo = record memo { state = Agreed }
after Uphold memo = record memo { state = Upheld }
after (Reduce amount) memo = record memo { state = Reduced; amount = amount }
after Withdraw memo = record memo { state = Withdrawn }

-- the memo after an answer: only what is done changes it
abbrev pub left_by : Result Change MemoFault → Action → MemoFields → MemoFields
left_by (Ok Done) action memo = after action memo
left_by (Ok Held) action memo = memo
left_by (Err fault) action memo = memo

-- on this day, under a plan with these review days, the action is answered so and leaves the memo so
pub record MemoStep (old : MemoFields) (action : Action) (day : CivilDay) (review : ℕ) (answer : Result Change MemoFault) (new : MemoFields) : Type 0 where
  pub told : answer ≡ answer_to old action day review
  pub left : new ≡ left_by answer action old
