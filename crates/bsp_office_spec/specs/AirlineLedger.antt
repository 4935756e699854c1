-- What an airline is answered, by its own rows, the codes of registered agents and the plan alone.
use Rattle.std.specs.Prelude.{ℕ, ◌==◌, not, nat_le, Bool, List, [], count_by, Option, Some, None, is_some, if◌then◌else◌}
use Rattle.std.specs.List.{filter}
use Rattle.std.specs.Ordering.{nat_cmp}
use Rattle.std.specs.FinMap.{FinMap, get, values}
use Rattle.bsp_rows.specs.CivilDay.{CivilDay}
use Rattle.bsp_rows.specs.Change.TheVariants.{Done, Held}
use Rattle.bsp_rows.specs.Published.{Published, closed_period}
use Rattle.bsp_rows.specs.Period.{Period}
use Rattle.bsp_rows.specs.Verdicts.{limit_of}
use Rattle.bsp_rows.specs.Memos.{is_amount, is_same_issue, issued_memo}
use Rattle.bsp_rows.specs.Owed.{is_billed_in}
use Rattle.bsp_rows.specs.Steps.{Action}
use Rattle.bsp_rows.specs.Steps.Action.{Uphold, Reduce, Withdraw}
use Rattle.bsp_rows.specs.MemoFault.TheVariants.{AmountOutOfRange, OtherContent, LimitReached, AgentNotRegistered}
use Rattle.bsp_rows.specs.MemoFields.{MemoFields}
use Rattle.bsp_hot.specs.Files.{form_of}
use Rattle.bsp_messages.specs.Values.{period_in}
use Rattle.bsp_messages.specs.declared.airline_bodies.MemoIssue.{MemoIssue}
use Rattle.bsp_messages.specs.declared.airline_bodies.Reduction.{Reduction}
use Rattle.bsp_messages.specs.declared.refusal.RequestRefusal.TheVariants.{Malformed, NoHot}
use Rattle.bsp_messages.specs.declared.refusal.RequestRefusal.TheVariants as refusal
use Rattle.bsp_rows.specs.Changes.{each}
use Rattle.bsp_rows.specs.Part.{AirlinePart, airline_part}
use Rattle.bsp_rows.specs.Rows.{Rows, is_in}
use Rattle.bsp_rows.specs.declared.keys.MemoKey.{MemoKey}
use Rattle.bsp_office_spec.specs.Answers.{Answer, HotRows}
use Rattle.bsp_office_spec.specs.Answers.Answer.{Changed, Memos, Hot, Refused}
use Rattle.bsp_office_spec.specs.Ledger.{memo_answer}
use Rattle.bsp_office_spec.specs.Requests.{AirlineRequest}
use Rattle.bsp_office_spec.specs.Requests.AirlineRequest.{AskIssuedMemos, IssueMemo, UpholdMemo, WithdrawMemo, ReduceMemo, AskHot}

-- an airline's own rows, the registered agents without their tokens, and the plan
pub record AirlineLedger : Type 0 where
  pub own : AirlinePart
  pub agents : FinMap nat_cmp (List ℕ)
  pub published : Published

-- a token left out
abbrev pub no_token : List ℕ → List ℕ
no_token token = []

-- the ledger that the rows of all callers hold of an airline
abbrev pub airline_ledger_of : ℕ → Rows → AirlineLedger
airline_ledger_of airline rows = record { own = airline_part airline rows; agents = each no_token rows.agents; published = rows.published }

-- the agent is registered
abbrev pub is_known : ℕ → AirlineLedger → Bool
is_known agent l = is_some (get l.agents agent)

-- ---- an issue

-- the memo that a body issues to an agent on a day
abbrev pub new_memo : ℕ → ℕ → MemoIssue → CivilDay → MemoFields
new_memo airline agent issue day = issued_memo airline issue.document agent issue.kind issue.amount issue.reason day

-- the key of an airline's memo
abbrev pub issue_key : ℕ → ℕ → MemoKey
issue_key airline document = record { airline = airline; document = document }

-- how many memos of the airline the agent has
abbrev pub count_to : ℕ → AirlineLedger → ℕ
count_to agent l = count_by (λ m. m.agent == agent) (values l.own.memos)

-- beside what the airline has under this number
abbrev pub issue_beside : ℕ → ℕ → MemoIssue → AirlineLedger → Option MemoFields → Answer
issue_beside airline agent issue l (Some memo) =
    if is_same_issue (new_memo airline agent issue l.published.day) memo then Changed Held else Refused (refusal.Memo OtherContent)
issue_beside airline agent issue l None =
    if nat_le (limit_of l.published.terms) (count_to agent l) then Refused (refusal.Memo LimitReached) else Changed Done

-- M08, then M04, then what is under the number
abbrev pub issuing : ℕ → MemoIssue → AirlineLedger → Option ℕ → Answer
issuing airline issue l None = Refused (refusal.Memo AgentNotRegistered)
issuing airline issue l (Some agent) =
    if not (is_known agent l) then Refused (refusal.Memo AgentNotRegistered)
    else (if not (is_amount issue.amount) then Refused (refusal.Memo AmountOutOfRange)
    else issue_beside airline agent issue l (get l.own.memos (issue_key airline issue.document)))

-- N04 where the body is malformed
abbrev pub issue_answer : ℕ → AirlineLedger → Option MemoIssue → Answer
issue_answer airline l None = Refused Malformed
issue_answer airline l (Some issue) = issuing airline issue l issue.agent.code

-- ---- actions

-- upheld or withdrawn: N04 where the body is malformed, M01 where the airline has no such memo
abbrev pub document_acted : ℕ → Action → AirlineLedger → Option ℕ → Answer
document_acted airline action l None = Refused Malformed
document_acted airline action l (Some document) = memo_answer action l.published (get l.own.memos (issue_key airline document))

-- reduced: the same
abbrev pub reduce_answer : ℕ → AirlineLedger → Option Reduction → Answer
reduce_answer airline l None = Refused Malformed
reduce_answer airline l (Some body) = memo_answer (Reduce body.amount) l.published (get l.own.memos (issue_key airline body.document))

-- ---- a HOT file

-- the items of the period that bear the airline, and its memos billed in it
abbrev pub hot_rows : AirlineLedger → Period → HotRows
hot_rows l q = record {
  period = q;
  form = form_of l.published q;
  terms = l.published.terms;
  items = filter (is_in q.code) (values l.own.items);
  memos = filter (is_billed_in q.code) (values l.own.memos);
}

-- of a closed period
abbrev pub hot_shown : ℕ → AirlineLedger → Option Period → Answer
hot_shown airline l None = Refused NoHot
hot_shown airline l (Some q) = Hot airline (hot_rows l q)

-- H02 where the path has no period, or this one is not published and closed
abbrev pub hot_answer : ℕ → AirlineLedger → Option ℕ → Answer
hot_answer airline l None = Refused NoHot
hot_answer airline l (Some code) = hot_shown airline l (closed_period l.published code)

-- ---- all requests of an airline

-- the answer to each request of the airline
abbrev pub airline_answer : ℕ → AirlineLedger → AirlineRequest → Answer
airline_answer airline l AskIssuedMemos = Memos (values l.own.memos)
airline_answer airline l (IssueMemo body) = issue_answer airline l body
airline_answer airline l (UpholdMemo document) = document_acted airline Uphold l document
airline_answer airline l (WithdrawMemo document) = document_acted airline Withdraw l document
airline_answer airline l (ReduceMemo body) = reduce_answer airline l body
airline_answer airline l (AskHot period) = hot_answer airline l (period_in period)
