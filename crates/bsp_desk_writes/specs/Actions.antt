-- What an action on a memo is answered, and the rows after it.
use Rattle.std.specs.Prelude.{◌≡◌, ℕ, Option, Some, Result, IfOk, IfSome, if◌then◌else◌}
use Rattle.std.specs.FinMap.{get}
use Rattle.bsp_book.specs.Calls.{Meaning}
use Rattle.bsp_book.specs.declared.fault.BookFault.{BookFault}
use Rattle.bsp_memos.specs.Steps.{Action}
use Rattle.bsp_memos.specs.Steps.Action.{Dispute, Agree, Uphold, Reduce, Withdraw}
use Rattle.bsp_memos.specs.declared.fields.MemoFields.{MemoFields}
use Rattle.bsp_messages.specs.declared.answer.Answer.{Answer as Message}
use Rattle.bsp_rows.specs.Part.{agent_part, airline_part}
use Rattle.bsp_rows.specs.Rows.{Rows, memo_at}
use Rattle.bsp_rows.specs.Sound.{Sound}
use Rattle.bsp_rows.specs.declared.keys.MemoKey.{MemoKey}
use Rattle.bsp_desk_sales.specs.Serves.{Serves}
use Rattle.bsp_office_spec.specs.Answers.{Answer, is_done}
use Rattle.bsp_office_spec.specs.Ledger.{memo_answer}
use Rattle.bsp_office_spec.specs.Step.{with_action}
use Rattle.bsp_office_spec.specs.Texts.{Says}
use Rattle.bsp_desk_writes.specs.declared.action.Action.{Action as Taken}
use Rattle.bsp_desk_writes.specs.declared.action.Action.TheVariants as taken

-- the action on a memo that a call takes
abbrev pub meaning_of : Taken → Action
meaning_of taken.Dispute = Dispute
meaning_of taken.Agree = Agree
meaning_of taken.Uphold = Uphold
meaning_of taken.Withdraw = Withdraw
meaning_of (taken.Reduce amount) = Reduce amount

-- ---- the memo that a caller has at a key

-- the memo of a key to this agent, if there is one
abbrev pub memo_to : ℕ → MemoKey → Rows → Option MemoFields
memo_to agent key rows = get (agent_part agent rows).memos key

-- the memo of a key of this airline, if there is one
abbrev pub memo_by : ℕ → MemoKey → Rows → Option MemoFields
memo_by airline key rows = get (airline_part airline rows).memos key

-- where it is one, it is that of the rows
abbrev pub IsFound : MemoKey → Option MemoFields → Rows → Type 0
IsFound key memo rows = IfSome memo (λ m. memo_at key rows ≡ Some m)

-- ---- an action on it

-- the rows after this answer
abbrev pub acted_left : Action → MemoKey → Answer → Rows → Rows
acted_left action key answer rows = if is_done answer then with_action action key rows else rows

module _ {B : Type 0} (m : Meaning B Rows) (old new : B) where
  -- of sound rows in which this is the memo of the caller
  abbrev pub ActsOn : Result Message BookFault → Action → Option MemoFields → Type 0
  ActsOn result action memo =
      IfOk result (λ message. m.trusts new → (now last : Rows) (key : MemoKey) → Sound now → IsFound key memo now → m.holds old now (Some last) →
      let answer = memo_answer action now.published memo in Says answer message × m.holds new (acted_left action key answer now) (Some last))

  -- of sound rows, on the memo that the caller has at the key
  abbrev pub ServesAction : Result Message BookFault → Action → MemoKey → (MemoKey → Rows → Option MemoFields) → Type 0
  ServesAction result action key memo =
      Serves m old new result (λ rows. memo_answer action rows.published (memo key rows)) (λ rows. acted_left action key (memo_answer action rows.published (memo key rows)) rows)
