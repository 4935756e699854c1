-- What one agent sees of each answered request, and what it makes of the agent's ledger.
use Rattle.std.specs.Prelude.{◌≡◌, ℕ, ◌==◌, ◌&&◌, Bool, false, List, [], ◌∷◌, ◌++◌, Option, Some, None, is_some, Ok, Err, if◌then◌else◌}
use Rattle.std.specs.FinMap.{get, insert, remove}
use Rattle.bsp_rows.specs.History.{Request as PlanRequest}
use Rattle.bsp_rows.specs.History.Request.{Publish, SetDay, Close}
use Rattle.bsp_rows.specs.Published.{target_or_zero}
use Rattle.bsp_rows.specs.Transaction.{Transaction}
use Rattle.bsp_rows.specs.Range.{Range}
use Rattle.bsp_rows.specs.Verdict.{Verdict}
use Rattle.bsp_rows.specs.Verdict.TheVariants as verdict
use Rattle.bsp_rows.specs.Lives.{after_event}
use Rattle.bsp_rows.specs.Lives.Event.{Closed}
use Rattle.bsp_rows.specs.Steps.{Action}
use Rattle.bsp_rows.specs.Steps.Action.{Uphold, Reduce, Withdraw}
use Rattle.bsp_messages.specs.Values.{airline_in}
use Rattle.bsp_messages.specs.declared.airline_bodies.MemoIssue.{MemoIssue}
use Rattle.bsp_rows.specs.Changes.{each}
use Rattle.bsp_rows.specs.Part.{AgentPart}
use Rattle.bsp_rows.specs.Rows.{Rows, range_key}
use Rattle.bsp_rows.specs.Writes.{plan_left}
use Rattle.bsp_rows.specs.declared.keys.MemoKey.{MemoKey}
use Rattle.bsp_rows.specs.History.{outcome}
use Rattle.bsp_office_spec.specs.AirlineLedger.{issue_key, new_memo}
use Rattle.bsp_office_spec.specs.Answers.{Answer, is_done, verdicts_in}
use Rattle.bsp_office_spec.specs.Ledger.{Ledger, agent_of, ledger_acted, ledger_after_request, ledger_answer, new_item, review_of, with_own_item, with_own_memos}
use Rattle.bsp_office_spec.specs.Requests.{AgentRequest, AirlineRequest, Asked, FileRead, OfficeRequest, Request}
use Rattle.bsp_office_spec.specs.Requests.AirlineRequest.{IssueMemo, UpholdMemo, WithdrawMemo, ReduceMemo}
use Rattle.bsp_office_spec.specs.Requests.Asked.{NoRoute, OtherMethod, ByOffice, ByAgent, ByAirline}
use Rattle.bsp_office_spec.specs.Requests.OfficeRequest.{PublishPlan, SetBusinessDay, RegisterAgent, RegisterAirline, AllotRange, WithdrawRange, OfficeFile, ClosePeriod, AskSettlement}
use Rattle.bsp_office_spec.specs.Step.{Fits, answer_of, is_token, rows_after}

-- what an agent sees
pub data Sight : Type 0 where
  -- its own request
  Own : (call : AgentRequest) → Sight
  -- accepted from the office
  Reported : (t : Transaction) → Sight
  Registered : (token : List ℕ) → Sight
  Allotted : (range : Range) → Sight
  Withdrew : (range : Range) → Sight
  -- by an airline
  Issued : (airline : ℕ) → (issue : MemoIssue) → Sight
  Acted : (action : Action) → (key : MemoKey) → Sight
  -- published for all
  Planned : (request : PlanRequest) → Sight

-- ---- the ledger after a sight

-- the memos after a request for the plan: a close bills those that it admits
abbrev pub ledger_billed : PlanRequest → Ledger → Ledger
ledger_billed (Publish text) l = l
ledger_billed (SetDay day) l = l
ledger_billed (Close period) l = with_own_memos (each (after_event (review_of l.published.terms) (Closed period l.published.day)) l.own.memos) l

-- the plan after a request for it, and the memos that a close bills
abbrev pub ledger_planned : PlanRequest → Ledger → Ledger
ledger_planned request l = record { own = (ledger_billed request l).own; published = plan_left l.published (outcome l.published request) }

-- the ledger with a change of its token or its ranges
abbrev pub with_own_ranges : (AgentPart → AgentPart) → Ledger → Ledger
with_own_ranges f l = record { own = f l.own; published = l.published }

-- the ledger after a sight
abbrev pub ledger_after : ℕ → Ledger → Sight → Ledger
ledger_after agent l (Own call) = ledger_after_request agent call l
ledger_after agent l (Reported t) = with_own_item (new_item agent l t (target_or_zero l.published t.issued)) l
ledger_after agent l (Registered token) = with_own_ranges (λ own. record own { token = Some token }) l
ledger_after agent l (Allotted range) = with_own_ranges (λ own. record own { ranges = insert own.ranges (range_key agent range) range.last }) l
ledger_after agent l (Withdrew range) = with_own_ranges (λ own. record own { ranges = remove own.ranges (range_key agent range) }) l
ledger_after agent l (Issued airline issue) = with_own_memos (insert l.own.memos (issue_key airline issue.document) (new_memo airline agent issue l.published.day)) l
ledger_after agent l (Acted action key) = ledger_acted action key l
ledger_after agent l (Planned request) = ledger_planned request l

-- the ledger after a list of sights, one after the other
abbrev pub ledger_all : ℕ → Ledger → List Sight → Ledger
ledger_all agent l [] = l
ledger_all agent l (s ∷ ss) = ledger_all agent (ledger_after agent l s) ss

-- ---- what an agent sees of an answered request

-- the code that was read is this one
abbrev pub is_agent : ℕ → Option ℕ → Bool
is_agent agent None = false
is_agent agent (Some other) = other == agent

-- seen by this agent alone
abbrev pub if_own : ℕ → Option ℕ → Sight → List Sight
if_own agent reading s = if is_agent agent reading then s ∷ [] else []

-- an accepted transaction is seen by the agent that it bears
abbrev pub reported_one : ℕ → Transaction → Verdict → List Sight
reported_one agent t (verdict.Held period) = []
reported_one agent t (verdict.Accepted period) = if_own agent (agent_of t.agent) (Reported t)
reported_one agent t (verdict.Refused refusal) = []

-- of a file, in its order
abbrev pub reported_in : ℕ → List Transaction → List Verdict → List Sight
reported_in agent [] vs = []
reported_in agent (t ∷ ts) [] = []
reported_in agent (t ∷ ts) (v ∷ vs) = reported_one agent t v ++ reported_in agent ts vs

-- of a done call of the office
abbrev pub office_sights : ℕ → OfficeRequest → List Sight
office_sights agent (PublishPlan (Ok text)) = Planned (Publish text) ∷ []
office_sights agent (PublishPlan (Err fault)) = []
office_sights agent (SetBusinessDay (Some day)) = Planned (SetDay day) ∷ []
office_sights agent (SetBusinessDay None) = []
office_sights agent (RegisterAgent (Some body)) = if_own agent body.agent.code (Registered body.token)
office_sights agent (RegisterAgent None) = []
office_sights agent (RegisterAirline body) = []
office_sights agent (AllotRange (Some body)) = if_own agent body.agent.code (Allotted body.range)
office_sights agent (AllotRange None) = []
office_sights agent (WithdrawRange (Some body)) = if_own agent body.agent.code (Withdrew body.range)
office_sights agent (WithdrawRange None) = []
office_sights agent (OfficeFile file) = []
office_sights agent (ClosePeriod (Some period)) = Planned (Close period) ∷ []
office_sights agent (ClosePeriod None) = []
office_sights agent (AskSettlement period) = []

-- a file with a fault shows nothing
abbrev pub file_sights : ℕ → FileRead → List Verdict → List Sight
file_sights agent (Err fault) vs = []
file_sights agent (Ok ts) vs = reported_in agent ts vs

-- of the verdicts on a file of the office
abbrev pub filed_sights : ℕ → OfficeRequest → List Verdict → List Sight
filed_sights agent (OfficeFile file) vs = file_sights agent file vs
filed_sights agent _ vs = []

-- of an action on one of the agent's memos
abbrev pub action_sights : Action → MemoKey → Ledger → List Sight
action_sights action key l = if is_some (get l.own.memos key) then Acted action key ∷ [] else []

-- of a done call of an airline
abbrev pub airline_sights : ℕ → ℕ → AirlineRequest → Ledger → List Sight
airline_sights agent airline (IssueMemo (Some issue)) l = if_own agent issue.agent.code (Issued airline issue)
airline_sights agent airline (UpholdMemo (Some document)) l = action_sights Uphold (issue_key airline document) l
airline_sights agent airline (WithdrawMemo (Some document)) l = action_sights Withdraw (issue_key airline document) l
airline_sights agent airline (ReduceMemo (Some body)) l = action_sights (Reduce body.amount) (issue_key airline body.document) l
airline_sights agent airline _ l = []

-- nothing without an airline's code
abbrev pub of_airline : ℕ → Option ℕ → AirlineRequest → Ledger → List Sight
of_airline agent None call l = []
of_airline agent (Some airline) call l = airline_sights agent airline call l

-- the path names the agent, and the token is its own
abbrev pub is_own : ℕ → Ledger → Option (List ℕ) → List ℕ → Bool
is_own agent l token code = is_agent agent (agent_of code) && is_token l.own.token token

-- an agent's own request whatever is answered; of others what is done, and what the verdicts on the office's file accept
abbrev pub answered_sights : ℕ → Ledger → Option (List ℕ) → Asked → Answer → List Sight
answered_sights agent l token NoRoute answer = []
answered_sights agent l token OtherMethod answer = []
answered_sights agent l token (ByOffice call) answer = if is_done answer then office_sights agent call else filed_sights agent call (verdicts_in answer)
answered_sights agent l token (ByAgent code call) answer = if is_own agent l token code then Own call ∷ [] else []
answered_sights agent l token (ByAirline code call) answer = if is_done answer then of_airline agent (airline_in code) call l else []

-- what an agent sees of an answered request
abbrev pub sights : ℕ → Ledger → Request → Answer → List Sight
sights agent l request answer = answered_sights agent l request.token request.asked answer

-- ---- requests with their answers, none for a 503

-- a request and its answer, none for a 503
pub record Exchange : Type 0 where
  pub request : Request
  pub reply : Option Answer

-- a 503 shows nothing
abbrev pub reply_sights : ℕ → Ledger → Exchange → List Sight
reply_sights agent l p = by p.reply where
  by : Option Answer → List Sight
  by None = []
  by (Some answer) = sights agent l p.request answer

-- its view
abbrev pub view : ℕ → Ledger → List Exchange → List Sight
view agent l [] = []
view agent l (p ∷ ps) = reply_sights agent l p ++ view agent (ledger_all agent l (reply_sights agent l p)) ps

-- only its own request has an answer
abbrev pub answer_to_sight : ℕ → Ledger → Sight → List Answer
answer_to_sight agent l (Own call) = ledger_answer agent l call ∷ []
answer_to_sight agent l _ = []

-- the answers to the agent's own requests, by its ledger
abbrev pub ledger_answers : ℕ → Ledger → List Sight → List Answer
ledger_answers agent l [] = []
ledger_answers agent l (s ∷ ss) = answer_to_sight agent l s ++ ledger_answers agent (ledger_after agent l s) ss

-- the answer, where the request is the agent's own
abbrev pub told_one : ℕ → Ledger → Option (List ℕ) → Asked → Answer → List Answer
told_one agent l token (ByAgent code call) answer = if is_own agent l token code then answer ∷ [] else []
told_one agent l token _ answer = []

-- a 503 is no answer
abbrev pub told_reply : ℕ → Ledger → Exchange → List Answer
told_reply agent l p = by p.reply where
  by : Option Answer → List Answer
  by None = []
  by (Some answer) = told_one agent l p.request.token p.request.asked answer

-- the answers that it was given to them
abbrev pub told : ℕ → Ledger → List Exchange → List Answer
told agent l [] = []
told agent l (p ∷ ps) = told_reply agent l p ++ told agent (ledger_all agent l (reply_sights agent l p)) ps

-- ---- runs of steps

-- a 503 may come at any request, and an answer is that of the rows
abbrev pub IsAnswered : List ℕ → Rows → Request → Option Answer → Type 0
IsAnswered office rows request None = Unit {0}
IsAnswered office rows request (Some answer) = answer ≡ answer_of office rows request

-- a 503 leaves the rows
abbrev pub rows_replied : Rows → Exchange → Rows
rows_replied rows p = by p.reply where
  by : Option Answer → Rows
  by None = rows
  by (Some answer) = rows_after rows p.request answer

-- each is answered so on the rows that those before it left, or by a 503
abbrev pub Run : List ℕ → Rows → List Exchange → Rows → Type 0
Run office rows [] new = new ≡ rows
Run office rows (p ∷ ps) new = IsAnswered office rows p.request p.reply × Run office (rows_replied rows p) ps new

-- each transaction of each file is a group
abbrev pub AllFit : List Exchange → Type 0
AllFit [] = Unit {0}
AllFit (p ∷ ps) = Fits p.request.asked × AllFit ps
