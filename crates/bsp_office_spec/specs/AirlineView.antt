-- What one airline sees of each answered request, and what it makes of the airline's ledger.
use Rattle.std.specs.Prelude.{ℕ, ◌==◌, ◌&&◌, Bool, List, [], ◌∷◌, ◌++◌, Option, Some, None, Ok, Err, if◌then◌else◌}
use Rattle.std.specs.FinMap.{insert}
use Rattle.bsp_rows.specs.History.{Request as PlanRequest, outcome}
use Rattle.bsp_rows.specs.History.Request.{Publish, SetDay, Close}
use Rattle.bsp_rows.specs.Published.{target_or_zero}
use Rattle.bsp_rows.specs.Transaction.{Transaction}
use Rattle.bsp_rows.specs.Verdict.{Verdict}
use Rattle.bsp_rows.specs.Verdict.TheVariants as verdict
use Rattle.bsp_rules.specs.Tax.{accepted_item}
use Rattle.bsp_rows.specs.Item.{Item}
use Rattle.bsp_rows.specs.Lives.{after_event}
use Rattle.bsp_rows.specs.Lives.Event.{Closed}
use Rattle.bsp_rows.specs.Steps.{Action}
use Rattle.bsp_rows.specs.Steps.Action.{Dispute, Agree, Uphold, Reduce, Withdraw}
use Rattle.bsp_rows.specs.MemoFields.{MemoFields}
use Rattle.bsp_messages.specs.Values.{airline_in}
use Rattle.bsp_messages.specs.declared.airline_bodies.MemoIssue.{MemoIssue}
use Rattle.std.specs.FinMap.{FinMap}
use Rattle.bsp_rows.specs.Changes.{each}
use Rattle.bsp_rows.specs.Rows.{memo_cmp}
use Rattle.bsp_rows.specs.Sound.{documents_at}
use Rattle.bsp_rows.specs.Writes.{plan_left}
use Rattle.bsp_rows.specs.declared.keys.MemoKey.{MemoKey}
use Rattle.bsp_office_spec.specs.AirlineLedger.{AirlineLedger, airline_answer, is_known, issue_key, new_memo}
use Rattle.bsp_office_spec.specs.Answers.{Answer, is_done, verdicts_in}
use Rattle.bsp_office_spec.specs.Ledger.{acted, agent_of, memo_named, review_of, taken}
use Rattle.bsp_office_spec.specs.Requests.{AgentRequest, AirlineRequest, Asked, FileRead, OfficeRequest}
use Rattle.bsp_office_spec.specs.Requests.AgentRequest.{AgentFile, DisputeMemo, AgreeMemo}
use Rattle.bsp_office_spec.specs.Requests.AirlineRequest.{IssueMemo, UpholdMemo, WithdrawMemo, ReduceMemo}
use Rattle.bsp_office_spec.specs.Requests.Asked.{NoRoute, OtherMethod, ByOffice, ByAgent, ByAirline}
use Rattle.bsp_office_spec.specs.Requests.OfficeRequest.{PublishPlan, SetBusinessDay, RegisterAgent, RegisterAirline, AllotRange, WithdrawRange, OfficeFile, ClosePeriod, AskSettlement}
use Rattle.bsp_office_spec.specs.Step.{Owner, bearer, is_token, reporter}
use Rattle.bsp_office_spec.specs.View.{Exchange, is_agent}

-- what an airline sees
pub data AirlineSight : Type 0 where
  -- its own request
  OwnAsked : (call : AirlineRequest) → AirlineSight
  -- accepted of this agent, and bearing the airline
  Taken : (agent : ℕ) → (t : Transaction) → AirlineSight
  -- its own registration
  Renewed : (token : List ℕ) → AirlineSight
  -- an agent is registered, and was not before
  Known : (agent : ℕ) → AirlineSight
  -- by an agent, on one of its memos
  ActedOn : (action : Action) → (key : MemoKey) → AirlineSight
  -- published for all
  Published : (request : PlanRequest) → AirlineSight

-- ---- the ledger after a sight

-- a transaction of an agent as it is accepted in a period, with its tax on commission. The tickets to which it relates bear the airline too, and are among the ledger's own items
abbrev pub taken_item : ℕ → AirlineLedger → Transaction → ℕ → Item
taken_item agent l t period = accepted_item agent period t (documents_at l.own.items agent t) l.published

-- the ledger with a new item, after what it ends
abbrev pub with_airline_items : (Item → AirlineLedger → AirlineLedger)
with_airline_items item l = record l { own = record { token = l.own.token; items = taken item l.own.items; memos = l.own.memos } }

-- the ledger with these memos
abbrev pub with_airline_memos : FinMap memo_cmp MemoFields → AirlineLedger → AirlineLedger
with_airline_memos memos l = record l { own = record { token = l.own.token; items = l.own.items; memos = memos } }

-- the ledger after an action on a memo
abbrev pub airline_acted : Action → MemoKey → AirlineLedger → AirlineLedger
airline_acted action key l = with_airline_memos (acted action l.published key l.own.memos) l

-- the ledger with a memo that is issued to an agent on the business day
abbrev pub airline_issued : ℕ → MemoIssue → Option ℕ → AirlineLedger → AirlineLedger
airline_issued airline issue None l = l
airline_issued airline issue (Some agent) l = with_airline_memos (insert l.own.memos (issue_key airline issue.document) (new_memo airline agent issue l.published.day)) l

-- its own requests, once they are done
abbrev pub airline_done_by : ℕ → AirlineRequest → AirlineLedger → AirlineLedger
airline_done_by airline (IssueMemo (Some issue)) l = airline_issued airline issue issue.agent.code l
airline_done_by airline (UpholdMemo (Some document)) l = airline_acted Uphold (issue_key airline document) l
airline_done_by airline (WithdrawMemo (Some document)) l = airline_acted Withdraw (issue_key airline document) l
airline_done_by airline (ReduceMemo (Some body)) l = airline_acted (Reduce body.amount) (issue_key airline body.document) l
airline_done_by airline _ l = l

-- the memos after a request for the plan: a close bills those that it admits
abbrev pub airline_billed : PlanRequest → AirlineLedger → FinMap memo_cmp MemoFields
airline_billed (Publish text) l = l.own.memos
airline_billed (SetDay day) l = l.own.memos
airline_billed (Close period) l = each (after_event (review_of l.published.terms) (Closed period l.published.day)) l.own.memos

-- the plan after a request for it, and the memos that a close bills
abbrev pub airline_planned : PlanRequest → AirlineLedger → AirlineLedger
airline_planned request l = record (with_airline_memos (airline_billed request l) l) { published = plan_left l.published (outcome l.published request) }

-- the ledger after a sight: its own request changes it where it is done
abbrev pub airline_after : ℕ → AirlineLedger → AirlineSight → AirlineLedger
airline_after airline l (OwnAsked call) = if is_done (airline_answer airline l call) then airline_done_by airline call l else l
airline_after airline l (Taken agent t) = with_airline_items (taken_item agent l t (target_or_zero l.published t.issued)) l
airline_after airline l (Renewed token) = record l { own = record { token = Some token; items = l.own.items; memos = l.own.memos } }
airline_after airline l (Known agent) = record l { agents = insert l.agents agent [] }
airline_after airline l (ActedOn action key) = airline_acted action key l
airline_after airline l (Published request) = airline_planned request l

-- the ledger after a list of sights, one after the other
abbrev pub airline_all : ℕ → AirlineLedger → List AirlineSight → AirlineLedger
airline_all airline l [] = l
airline_all airline l (s ∷ ss) = airline_all airline (airline_after airline l s) ss

-- ---- what an airline sees of an answered request

-- seen by this airline alone
abbrev pub if_same : ℕ → ℕ → AirlineSight → List AirlineSight
if_same airline other s = if other == airline then s ∷ [] else []

-- seen by the airline that the transaction bears
abbrev pub taken_of : ℕ → Option ℕ → Transaction → List AirlineSight
taken_of airline None t = []
taken_of airline (Some agent) t = if_same airline t.document.airline (Taken agent t)

-- an accepted transaction, with the agent whose it is
abbrev pub taken_one : ℕ → Owner → Transaction → Verdict → List AirlineSight
taken_one airline owner t (verdict.Held period) = []
taken_one airline owner t (verdict.Accepted period) = taken_of airline (owner t) t
taken_one airline owner t (verdict.Refused refusal) = []

-- of a file, in its order
abbrev pub taken_in : ℕ → Owner → List Transaction → List Verdict → List AirlineSight
taken_in airline owner [] vs = []
taken_in airline owner (t ∷ ts) [] = []
taken_in airline owner (t ∷ ts) (v ∷ vs) = taken_one airline owner t v ++ taken_in airline owner ts vs

-- a file with a fault shows nothing
abbrev pub taken_file : ℕ → Owner → FileRead → List Verdict → List AirlineSight
taken_file airline owner (Err fault) vs = []
taken_file airline owner (Ok ts) vs = taken_in airline owner ts vs

-- an agent that the ledger does not know yet; a new token of one that it knows shows nothing
abbrev pub known_of : AirlineLedger → Option ℕ → List AirlineSight
known_of l None = []
known_of l (Some agent) = if is_known agent l then [] else Known agent ∷ []

-- of a done request of the office
abbrev pub office_shows : ℕ → AirlineLedger → OfficeRequest → List AirlineSight
office_shows airline l (PublishPlan (Ok text)) = Published (Publish text) ∷ []
office_shows airline l (PublishPlan (Err fault)) = []
office_shows airline l (SetBusinessDay (Some day)) = Published (SetDay day) ∷ []
office_shows airline l (SetBusinessDay None) = []
office_shows airline l (RegisterAgent (Some body)) = known_of l body.agent.code
office_shows airline l (RegisterAgent None) = []
office_shows airline l (RegisterAirline (Some body)) = if_same airline body.airline (Renewed body.token)
office_shows airline l (RegisterAirline None) = []
office_shows airline l (AllotRange body) = []
office_shows airline l (WithdrawRange body) = []
office_shows airline l (OfficeFile file) = []
office_shows airline l (ClosePeriod (Some period)) = Published (Close period) ∷ []
office_shows airline l (ClosePeriod None) = []
office_shows airline l (AskSettlement period) = []

-- of the verdicts on a file of the office
abbrev pub office_files : ℕ → OfficeRequest → List Verdict → List AirlineSight
office_files airline (OfficeFile file) vs = taken_file airline bearer file vs
office_files airline _ vs = []

-- of a done request of an agent, and of the verdicts on its file
abbrev pub agent_shows : ℕ → AgentRequest → List AirlineSight
agent_shows airline (DisputeMemo (Some body)) = if_same airline body.airline (ActedOn Dispute (memo_named body))
agent_shows airline (AgreeMemo (Some body)) = if_same airline body.airline (ActedOn Agree (memo_named body))
agent_shows airline _ = []

-- of the verdicts on an agent's file
abbrev pub agent_files : ℕ → Option ℕ → AgentRequest → List Verdict → List AirlineSight
agent_files airline agent (AgentFile file) vs = taken_file airline (reporter agent) file vs
agent_files airline agent _ vs = []

-- the path names the airline, and the token is its own
abbrev pub is_own_airline : ℕ → AirlineLedger → Option (List ℕ) → List ℕ → Bool
is_own_airline airline l token code = is_agent airline (airline_in code) && is_token l.own.token token

-- its own request whatever is answered; of others what is done, and what the verdicts on files accept
abbrev pub airline_sights : ℕ → AirlineLedger → Option (List ℕ) → Asked → Answer → List AirlineSight
airline_sights airline l token NoRoute answer = []
airline_sights airline l token OtherMethod answer = []
airline_sights airline l token (ByOffice call) answer = if is_done answer then office_shows airline l call else office_files airline call (verdicts_in answer)
airline_sights airline l token (ByAgent code call) answer = if is_done answer then agent_shows airline call else agent_files airline (agent_of code) call (verdicts_in answer)
airline_sights airline l token (ByAirline code call) answer = if is_own_airline airline l token code then OwnAsked call ∷ [] else []

-- ---- runs

-- a 503 shows nothing
abbrev pub airline_reply_sights : ℕ → AirlineLedger → Exchange → List AirlineSight
airline_reply_sights airline l p = by p.reply where
  by : Option Answer → List AirlineSight
  by None = []
  by (Some answer) = airline_sights airline l p.request.token p.request.asked answer

-- its view
abbrev pub airline_view : ℕ → AirlineLedger → List Exchange → List AirlineSight
airline_view airline l [] = []
airline_view airline l (p ∷ ps) = airline_reply_sights airline l p ++ airline_view airline (airline_all airline l (airline_reply_sights airline l p)) ps

-- only its own request has an answer
abbrev pub airline_sight_answer : ℕ → AirlineLedger → AirlineSight → List Answer
airline_sight_answer airline l (OwnAsked call) = airline_answer airline l call ∷ []
airline_sight_answer airline l _ = []

-- the answers to the airline's own requests, by its ledger
abbrev pub airline_ledger_answers : ℕ → AirlineLedger → List AirlineSight → List Answer
airline_ledger_answers airline l [] = []
airline_ledger_answers airline l (s ∷ ss) = airline_sight_answer airline l s ++ airline_ledger_answers airline (airline_after airline l s) ss

-- the answer, where the request is the airline's own
abbrev pub airline_told_one : ℕ → AirlineLedger → Option (List ℕ) → Asked → Answer → List Answer
airline_told_one airline l token (ByAirline code call) answer = if is_own_airline airline l token code then answer ∷ [] else []
airline_told_one airline l token _ answer = []

-- a 503 is no answer
abbrev pub airline_told_reply : ℕ → AirlineLedger → Exchange → List Answer
airline_told_reply airline l p = by p.reply where
  by : Option Answer → List Answer
  by None = []
  by (Some answer) = airline_told_one airline l p.request.token p.request.asked answer

-- the answers that it was given to them
abbrev pub airline_told : ℕ → AirlineLedger → List Exchange → List Answer
airline_told airline l [] = []
airline_told airline l (p ∷ ps) = airline_told_reply airline l p ++ airline_told airline (airline_all airline l (airline_reply_sights airline l p)) ps
