-- What the issue of a memo is answered, and the rows after it.
use Rattle.std.specs.Prelude.{ℕ, nat_le, Option, Some, None, Result, IfOk, if◌then◌else◌}
use Rattle.bsp_rows.specs.Change.TheVariants.{Done, Held}
use Rattle.bsp_rows.specs.Verdicts.{limit_of}
use Rattle.bsp_book.specs.Calls.{Meaning}
use Rattle.bsp_book.specs.declared.fault.BookFault.{BookFault}
use Rattle.bsp_memos.specs.Memos.{is_same_issue}
use Rattle.bsp_memos.specs.declared.fault.MemoFault.TheVariants.{OtherContent, LimitReached}
use Rattle.bsp_memos.specs.declared.fields.MemoFields.{MemoFields}
use Rattle.bsp_messages.specs.declared.airline_bodies.MemoIssue.{MemoIssue}
use Rattle.bsp_messages.specs.declared.answer.Answer.{Answer as Message}
use Rattle.bsp_messages.specs.declared.refusal.RequestRefusal.TheVariants as refusal
use Rattle.bsp_rows.specs.Laws.{issued_count}
use Rattle.bsp_rows.specs.Rows.{Rows, memo_at, memo_key}
use Rattle.bsp_rows.specs.Writes.{IsFree, with_memo}
use Rattle.bsp_desk_sales.specs.Serves.{Serves}
use Rattle.bsp_office_spec.specs.AirlineLedger.{airline_ledger_of, issuing}
use Rattle.bsp_office_spec.specs.Answers.{Answer, is_done}
use Rattle.bsp_office_spec.specs.Answers.Answer.{Changed, Refused}
use Rattle.bsp_office_spec.specs.Step.{issued_to}
use Rattle.bsp_office_spec.specs.Texts.{Says}

-- ---- a new memo, whose amount is in range, to an agent that is registered

-- beside what is at its key
abbrev pub beside : MemoFields → Rows → Option MemoFields → Answer
beside new rows (Some memo) = if is_same_issue new memo then Changed Held else Refused (refusal.Memo OtherContent)
beside new rows None =
    if nat_le (limit_of rows.published.terms) (issued_count new.agent new.airline rows) then Refused (refusal.Memo LimitReached) else Changed Done

-- the answer to a new memo over the rows
abbrev pub placing : MemoFields → Rows → Answer
placing new rows = beside new rows (memo_at (memo_key new) rows)

-- the rows after this answer
abbrev pub placed_left : MemoFields → Answer → Rows → Rows
placed_left new answer rows = if is_done answer then with_memo new rows else rows

-- the rows after a new memo
abbrev pub placed : MemoFields → Rows → Rows
placed new rows = placed_left new (placing new rows) rows

-- ---- an issue

-- the rows after this answer to an issue of an airline
abbrev pub issued_left : ℕ → MemoIssue → Option ℕ → Answer → Rows → Rows
issued_left airline issue agent answer rows = if is_done answer then issued_to airline issue agent rows else rows

module _ {B : Type 0} (m : Meaning B Rows) (old new : B) where
  -- of rows in which its key is free
  abbrev pub Adds : Result Message BookFault → MemoFields → Type 0
  Adds result memo =
      IfOk result (λ message. m.trusts new → (now last : Rows) → IsFree (memo_at (memo_key memo) now) → m.holds old now (Some last) →
      Says (beside memo now None) message × m.holds new (placed_left memo (beside memo now None) now) (Some last))

  -- of sound rows, to the agent of this code
  abbrev pub ServesIssue : Result Message BookFault → ℕ → MemoIssue → Option ℕ → Type 0
  ServesIssue result airline issue agent =
      Serves m old new result (λ rows. issuing airline issue (airline_ledger_of airline rows) agent)
      (λ rows. issued_left airline issue agent (issuing airline issue (airline_ledger_of airline rows) agent) rows)
