-- What each request is answered, and what it makes of the rows of all callers.
use Rattle.std.specs.Prelude.{◌≡◌, ℕ, ◌==◌, not, nat_lt, Bool, true, false, List, [], ◌∷◌, Option, Some, None, is_some, Result, Ok, Err, if◌then◌else◌}
use Rattle.std.specs.Str.{bytes_eq}
use Rattle.std.specs.FinMap.{values}
use Rattle.bsp_rows.specs.CivilDay.{CivilDay}
use Rattle.bsp_rows.specs.Change.{Change}
use Rattle.bsp_rows.specs.Change.TheVariants.{Done, Held}
use Rattle.bsp_rows.specs.History.Request.{Publish, SetDay, Close}
use Rattle.bsp_rows.specs.Published.{closed_period, has_airline}
use Rattle.bsp_rows.specs.Requests.{closing}
use Rattle.bsp_rows.specs.Period.{Period}
use Rattle.bsp_rows.specs.PlanFault.{PlanFault}
use Rattle.bsp_rows.specs.GroupValues.{is_group_values}
use Rattle.bsp_rows.specs.Transaction.{Transaction}
use Rattle.bsp_rows.specs.Range.{Range}
use Rattle.bsp_rows.specs.Refusal.TheVariants.{WrongAgent}
use Rattle.bsp_rows.specs.Reporter.TheVariants.{Office}
use Rattle.bsp_rows.specs.Verdict.{Verdict}
use Rattle.bsp_rows.specs.Verdict.TheVariants as verdict
use Rattle.bsp_rows.specs.Steps.{Action}
use Rattle.bsp_rows.specs.Steps.Action.{Dispute, Agree, Uphold, Reduce, Withdraw}
use Rattle.bsp_rows.specs.Postings.{postings}
use Rattle.bsp_messages.specs.Values.{airline_in, period_in}
use Rattle.bsp_messages.specs.declared.airline_bodies.MemoIssue.{MemoIssue}
use Rattle.bsp_messages.specs.declared.office_bodies.AgentRegistration.{AgentRegistration}
use Rattle.bsp_messages.specs.declared.office_bodies.AirlineRegistration.{AirlineRegistration}
use Rattle.bsp_messages.specs.declared.office_bodies.StockChange.{StockChange}
use Rattle.bsp_messages.specs.declared.refusal.RequestRefusal.TheVariants.{Forbidden, Malformed, WrongAgentCode, AirlineNotInPlan, UnknownPeriod}
use Rattle.bsp_messages.specs.declared.refusal.RequestRefusal.TheVariants as refusal
use Rattle.bsp_messages.specs.declared.refusal.StockFault.TheVariants.{FirstAfterLast, NotRegistered, MeetsRange, NoSuchRange, RangeUsed}
use Rattle.bsp_rows.specs.Changes.{after_accepted, after_close}
use Rattle.bsp_rows.specs.Rows.{Rows, agent_token, airline_token, has_meeting, is_used_in, range_at, range_key}
use Rattle.bsp_rows.specs.Writes.{after_request, plan_left, request_answer, with_agent_token, with_airline_token, with_memo, with_range, without_range}
use Rattle.bsp_rows.specs.declared.keys.MemoKey.{MemoKey}
use Rattle.bsp_office_spec.specs.AirlineLedger.{airline_answer, airline_ledger_of, issue_key, new_memo}
use Rattle.bsp_office_spec.specs.Answers.{Answer, is_done, verdicts_in}
use Rattle.bsp_office_spec.specs.Answers.Answer.{Changed, Verdicts, Settlement, FileFault, Refused}
use Rattle.bsp_office_spec.specs.Ledger.{acted, agent_of, ledger_answer, ledger_of, memo_named, new_item, own_verdict, review_of}
use Rattle.bsp_office_spec.specs.Requests.{Asked, AgentRequest, AirlineRequest, FileRead, OfficeRequest, PlanRead, Request}
use Rattle.bsp_office_spec.specs.Requests.AgentRequest.{AgentFile, DisputeMemo, AgreeMemo}
use Rattle.bsp_office_spec.specs.Requests.AirlineRequest.{IssueMemo, UpholdMemo, WithdrawMemo, ReduceMemo}
use Rattle.bsp_office_spec.specs.Requests.Asked.{NoRoute, OtherMethod, ByOffice, ByAgent, ByAirline}
use Rattle.bsp_office_spec.specs.Requests.OfficeRequest.{PublishPlan, SetBusinessDay, RegisterAgent, RegisterAirline, AllotRange, WithdrawRange, OfficeFile, ClosePeriod, AskSettlement}

-- ---- the token

-- the caller has a token, and it is the one given
abbrev pub is_token : Option (List ℕ) → Option (List ℕ) → Bool
is_token None given = false
is_token (Some own) None = false
is_token (Some own) (Some given) = bytes_eq own given

-- ---- the office: the plan

-- done, held, or the refusal of the plan
abbrev pub outcome_answer : Result Change PlanFault → Answer
outcome_answer (Ok change) = Changed change
outcome_answer (Err fault) = Refused (refusal.Plan fault)

-- P01 or P02 of the text, else what the plan answers to it
abbrev pub plan_answer : PlanRead → Rows → Answer
plan_answer (Err fault) rows = Refused (refusal.Plan fault)
plan_answer (Ok text) rows = outcome_answer (request_answer (Publish text) rows)

-- N04 where the body is malformed, else P04, held or done
abbrev pub day_answer : Option CivilDay → Rows → Answer
day_answer None rows = Refused Malformed
day_answer (Some day) rows = outcome_answer (request_answer (SetDay day) rows)

-- N04 where the body is malformed, else P06, P07, held or done
abbrev pub close_answer : Option ℕ → Rows → Answer
close_answer None rows = Refused Malformed
close_answer (Some period) rows = outcome_answer (request_answer (Close period) rows)

-- the period is closed, and each memo that the close admits is billed in it
abbrev pub with_close : ℕ → Rows → Rows
with_close period rows = after_close period (plan_left rows.published (closing rows.published period)) (review_of rows.published.terms) rows

-- ---- the office: registration and stock

-- another token replaces the old one
abbrev pub token_answer : Option (List ℕ) → List ℕ → Answer
token_answer old token = if is_token old (Some token) then Changed Held else Changed Done

-- N05 where the code's check digit is wrong
abbrev pub registration_answer : Option ℕ → List ℕ → Rows → Answer
registration_answer None token rows = Refused WrongAgentCode
registration_answer (Some agent) token rows = token_answer (agent_token agent rows) token

-- N04 where the body is malformed
abbrev pub agent_registered : Option AgentRegistration → Rows → Answer
agent_registered None rows = Refused Malformed
agent_registered (Some body) rows = registration_answer body.agent.code body.token rows

-- N04 where the body is malformed, N06 where the plan has not the airline
abbrev pub airline_registered : Option AirlineRegistration → Rows → Answer
airline_registered None rows = Refused Malformed
airline_registered (Some body) rows =
    if has_airline rows.published body.airline then token_answer (airline_token body.airline rows) body.token else Refused AirlineNotInPlan

-- the agent has a token
abbrev pub is_registered : ℕ → Rows → Bool
is_registered agent rows = is_some (agent_token agent rows)

-- the range at the key ends so
abbrev pub is_last : Option ℕ → ℕ → Bool
is_last None last = false
is_last (Some other) last = other == last

-- the agent has this very range
abbrev pub has_range : ℕ → Range → Rows → Bool
has_range agent range rows = is_last (range_at (range_key agent range) rows) range.last

-- K02, held, K03 or done
abbrev pub allotment : Option ℕ → Range → Rows → Answer
allotment None range rows = Refused (refusal.Stock NotRegistered)
allotment (Some agent) range rows =
    if not (is_registered agent rows) then Refused (refusal.Stock NotRegistered)
    else (if has_range agent range rows then Changed Held
    else (if has_meeting range rows then Refused (refusal.Stock MeetsRange) else Changed Done))

-- K02, K04, K05 or done
abbrev pub withdrawal : Option ℕ → Range → Rows → Answer
withdrawal None range rows = Refused (refusal.Stock NotRegistered)
withdrawal (Some agent) range rows =
    if not (is_registered agent rows) then Refused (refusal.Stock NotRegistered)
    else (if not (has_range agent range rows) then Refused (refusal.Stock NoSuchRange)
    else (if is_used_in agent range rows then Refused (refusal.Stock RangeUsed) else Changed Done))

-- its first number is after its last
abbrev pub is_out_of_order : Range → Bool
is_out_of_order range = nat_lt range.last range.first

-- N04 where the body is malformed, then K01
abbrev pub allot_answer : Option StockChange → Rows → Answer
allot_answer None rows = Refused Malformed
allot_answer (Some body) rows =
    if is_out_of_order body.range then Refused (refusal.Stock FirstAfterLast) else allotment body.agent.code body.range rows

-- N04 where the body is malformed, then K01
abbrev pub withdraw_answer : Option StockChange → Rows → Answer
withdraw_answer None rows = Refused Malformed
withdraw_answer (Some body) rows =
    if is_out_of_order body.range then Refused (refusal.Stock FirstAfterLast) else withdrawal body.agent.code body.range rows

-- ---- a file: whose rows a transaction is judged over, and joins

-- of the office's file those of the agent that it bears
abbrev pub office_verdict_for : Option ℕ → Rows → Transaction → Verdict
office_verdict_for None rows t = verdict.Refused WrongAgent
office_verdict_for (Some agent) rows t = own_verdict Office (ledger_of agent rows) t

-- on a transaction of the office's file
abbrev pub office_verdict : Rows → Transaction → Verdict
office_verdict rows t = office_verdict_for (agent_of t.agent) rows t

-- the rows with an accepted transaction of the agent
abbrev pub joined : Option ℕ → Transaction → ℕ → Rows → Rows
joined None t period rows = rows
joined (Some agent) t period rows = after_accepted (new_item agent (ledger_of agent rows) t period) rows

-- whose rows a transaction is judged over, none where no agent has its code
abbrev pub Owner : Type 0
Owner = Transaction → Option ℕ

-- of the office's file the agent that the transaction bears, of an agent's file that agent
abbrev pub bearer : Owner
bearer t = agent_of t.agent

-- of an agent's file that agent
abbrev pub reporter : Option ℕ → Owner
reporter agent t = agent

-- only an accepted transaction joins the rows
abbrev pub rows_judged : Owner → Transaction → Verdict → Rows → Rows
rows_judged owner t (verdict.Held period) rows = rows
rows_judged owner t (verdict.Accepted period) rows = joined (owner t) t period rows
rows_judged owner t (verdict.Refused refusal) rows = rows

-- each is judged on what those before it left
abbrev pub office_verdicts : Rows → List Transaction → List Verdict
office_verdicts rows [] = []
office_verdicts rows (t ∷ ts) = office_verdict rows t ∷ office_verdicts (rows_judged bearer t (office_verdict rows t) rows) ts

-- the rows after the verdicts on a file
abbrev pub rows_filed : Owner → List Transaction → List Verdict → Rows → Rows
rows_filed owner [] vs rows = rows
rows_filed owner (t ∷ ts) [] rows = rows
rows_filed owner (t ∷ ts) (v ∷ vs) rows = rows_filed owner ts vs (rows_judged owner t v rows)

-- a file with a fault changes nothing
abbrev pub after_file : Owner → FileRead → List Verdict → Rows → Rows
after_file owner (Err fault) vs rows = rows
after_file owner (Ok ts) vs rows = rows_filed owner ts vs rows

-- the first fault of a file, or its verdicts
abbrev pub office_file_answer : FileRead → Rows → Answer
office_file_answer (Err fault) rows = FileFault fault
office_file_answer (Ok ts) rows = Verdicts (office_verdicts rows ts)

-- ---- the office: the settlement

-- of a closed period, over the rows of all agents and airlines
abbrev pub settlement_shown : Option Period → Rows → Answer
settlement_shown None rows = Refused UnknownPeriod
settlement_shown (Some q) rows = Settlement (record {
  period = q;
  terms = rows.published.terms;
  postings = postings q.code (values rows.items) (values rows.memos);
})

-- S01 where the path has no period, or this one is not published and closed
abbrev pub settlement_answer : Option ℕ → Rows → Answer
settlement_answer None rows = Refused UnknownPeriod
settlement_answer (Some code) rows = settlement_shown (closed_period rows.published code) rows

-- ---- what is answered: the route and its method, the token, the body, the content

-- the answer to each request of the office
abbrev pub office_answer : OfficeRequest → Rows → Answer
office_answer (PublishPlan text) rows = plan_answer text rows
office_answer (SetBusinessDay day) rows = day_answer day rows
office_answer (RegisterAgent body) rows = agent_registered body rows
office_answer (RegisterAirline body) rows = airline_registered body rows
office_answer (AllotRange body) rows = allot_answer body rows
office_answer (WithdrawRange body) rows = withdraw_answer body rows
office_answer (OfficeFile file) rows = office_file_answer file rows
office_answer (ClosePeriod period) rows = close_answer period rows
office_answer (AskSettlement period) rows = settlement_answer (period_in period) rows

-- N01 where the path has no agent, or the token is not the agent's own
abbrev pub to_agent : Option ℕ → Option (List ℕ) → AgentRequest → Rows → Answer
to_agent None token call rows = Refused Forbidden
to_agent (Some agent) token call rows =
    if is_token (agent_token agent rows) token then ledger_answer agent (ledger_of agent rows) call else Refused Forbidden

-- N01 where the path has no airline, or the token is not the airline's own
abbrev pub to_airline : Option ℕ → Option (List ℕ) → AirlineRequest → Rows → Answer
to_airline None token call rows = Refused Forbidden
to_airline (Some airline) token call rows =
    if is_token (airline_token airline rows) token then airline_answer airline (airline_ledger_of airline rows) call else Refused Forbidden

-- N02, N03, then the token of whom the path names: N01
abbrev pub asked_answer : List ℕ → Option (List ℕ) → Asked → Rows → Answer
asked_answer office token NoRoute rows = Refused refusal.NoRoute
asked_answer office token OtherMethod rows = Refused refusal.OtherMethod
asked_answer office token (ByOffice call) rows = if is_token (Some office) token then office_answer call rows else Refused Forbidden
asked_answer office token (ByAgent code call) rows = to_agent (agent_of code) token call rows
asked_answer office token (ByAirline code call) rows = to_airline (airline_in code) token call rows

-- of an office with a token, over the rows of all callers
abbrev pub answer_of : List ℕ → Rows → Request → Answer
answer_of office rows request = asked_answer office request.token request.asked rows

-- ---- the rows after an answer

-- the agent is registered, or its token replaced
abbrev pub registered_as : Option ℕ → List ℕ → Rows → Rows
registered_as None token rows = rows
registered_as (Some agent) token rows = with_agent_token agent token rows

-- the agent has the range
abbrev pub allotted : Option ℕ → Range → Rows → Rows
allotted None range rows = rows
allotted (Some agent) range rows = with_range agent range rows

-- the range is gone
abbrev pub withdrawn : Option ℕ → Range → Rows → Rows
withdrawn None range rows = rows
withdrawn (Some agent) range rows = without_range agent range rows

-- the office's requests, once they are done
abbrev pub office_done : OfficeRequest → Rows → Rows
office_done (PublishPlan (Ok text)) rows = after_request (Publish text) rows
office_done (PublishPlan (Err fault)) rows = rows
office_done (SetBusinessDay (Some day)) rows = after_request (SetDay day) rows
office_done (SetBusinessDay None) rows = rows
office_done (RegisterAgent (Some body)) rows = registered_as body.agent.code body.token rows
office_done (RegisterAgent None) rows = rows
office_done (RegisterAirline (Some body)) rows = with_airline_token body.airline body.token rows
office_done (RegisterAirline None) rows = rows
office_done (AllotRange (Some body)) rows = allotted body.agent.code body.range rows
office_done (AllotRange None) rows = rows
office_done (WithdrawRange (Some body)) rows = withdrawn body.agent.code body.range rows
office_done (WithdrawRange None) rows = rows
office_done (ClosePeriod (Some period)) rows = with_close period rows
office_done (ClosePeriod None) rows = rows
office_done (OfficeFile file) rows = rows
office_done (AskSettlement period) rows = rows

-- what the verdicts on the office's file accept joins the rows of the agents that it bears
abbrev pub filed_by_office : OfficeRequest → List Verdict → Rows → Rows
filed_by_office (OfficeFile file) vs rows = after_file bearer file vs rows
filed_by_office _ vs rows = rows

-- the rows after an action on a memo
abbrev pub with_action : Action → MemoKey → Rows → Rows
with_action action key rows = record rows { memos = acted action rows.published key rows.memos }

-- an agent's requests, once they are done
abbrev pub agent_done : AgentRequest → Rows → Rows
agent_done (DisputeMemo (Some body)) rows = with_action Dispute (memo_named body) rows
agent_done (AgreeMemo (Some body)) rows = with_action Agree (memo_named body) rows
agent_done _ rows = rows

-- what the verdicts on an agent's file accept joins its rows
abbrev pub filed_by_agent : Option ℕ → AgentRequest → List Verdict → Rows → Rows
filed_by_agent agent (AgentFile file) vs rows = after_file (reporter agent) file vs rows
filed_by_agent agent _ vs rows = rows

-- the memo is issued to the agent on the business day
abbrev pub issued_to : ℕ → MemoIssue → Option ℕ → Rows → Rows
issued_to airline issue None rows = rows
issued_to airline issue (Some agent) rows = with_memo (new_memo airline agent issue rows.published.day) rows

-- an airline's requests, once they are done
abbrev pub airline_done : ℕ → AirlineRequest → Rows → Rows
airline_done airline (IssueMemo (Some issue)) rows = issued_to airline issue issue.agent.code rows
airline_done airline (UpholdMemo (Some document)) rows = with_action Uphold (issue_key airline document) rows
airline_done airline (WithdrawMemo (Some document)) rows = with_action Withdraw (issue_key airline document) rows
airline_done airline (ReduceMemo (Some body)) rows = with_action (Reduce body.amount) (issue_key airline body.document) rows
airline_done airline _ rows = rows

-- none without an airline's code
abbrev pub by_airline : Option ℕ → AirlineRequest → Rows → Rows
by_airline None call rows = rows
by_airline (Some airline) call rows = airline_done airline call rows

-- a done change, and what the verdicts accept; any other answer leaves the rows
abbrev pub asked_after : Asked → Answer → Rows → Rows
asked_after NoRoute answer rows = rows
asked_after OtherMethod answer rows = rows
asked_after (ByOffice call) answer rows = if is_done answer then office_done call rows else filed_by_office call (verdicts_in answer) rows
asked_after (ByAgent code call) answer rows = if is_done answer then agent_done call rows else filed_by_agent (agent_of code) call (verdicts_in answer) rows
asked_after (ByAirline code call) answer rows = if is_done answer then by_airline (airline_in code) call rows else rows

-- the rows after an answered request
abbrev pub rows_after : Rows → Request → Answer → Rows
rows_after rows request answer = asked_after request.asked answer rows

-- ---- what a RET reader gives: each transaction is a group

-- each transaction has the values of a group
abbrev pub AreGroups : List Transaction → Type 0
AreGroups [] = Unit {0}
AreGroups (t ∷ ts) = (is_group_values t ≡ true) × AreGroups ts

-- a file with a fault has no transactions
abbrev pub HasGroups : FileRead → Type 0
HasGroups (Err fault) = Unit {0}
HasGroups (Ok ts) = AreGroups ts

-- each transaction of the request's file is a group; other requests have no file
abbrev pub Fits : Asked → Type 0
Fits (ByOffice (OfficeFile file)) = HasGroups file
Fits (ByAgent code (AgentFile file)) = HasGroups file
Fits _ = Unit {0}
