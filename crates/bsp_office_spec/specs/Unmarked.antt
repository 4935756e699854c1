-- A ledger needs no marks: what lives follows from its items, and what a memo is from what is seen of it.
use Rattle.std.specs.Prelude.{◌≡◌, ◌⊎◌, ℕ, not, ◌||◌, Bool, true, List, [], ◌∷◌, ◌++◌, Option, Some, IsSome, MatchOption, if◌then◌else◌}
use Rattle.std.specs.List.{Contains}
use Rattle.std.specs.Ordering.{eq_by_cmp}
use Rattle.std.specs.FinMap.{get, values}
use Rattle.bsp_rows.specs.CivilDay.{CivilDay}
use Rattle.bsp_rows.specs.History.{Request as PlanRequest, outcome}
use Rattle.bsp_rows.specs.History.Request.{Publish, SetDay, Close}
use Rattle.bsp_rows.specs.Item.{Item}
use Rattle.bsp_rows.specs.Lives.{Event, IsFirstToAdmit, NoCloseAdmits, after_events}
use Rattle.bsp_rows.specs.Lives.Event.{Acted as Happened, Closed}
use Rattle.bsp_rows.specs.MemoFields.{MemoFields}
use Rattle.bsp_rows.specs.Published.{Published as Plan}
use Rattle.bsp_rows.specs.Rows.{Rows, memo_cmp}
use Rattle.bsp_rows.specs.RulesRows.{cancelled, is_canx}
use Rattle.bsp_rows.specs.Steps.{Action}
use Rattle.bsp_rows.specs.Steps.Action.{Dispute, Agree, Uphold, Reduce, Withdraw}
use Rattle.bsp_rows.specs.Sound.{Sound}
use Rattle.bsp_rows.specs.Writes.{plan_left}
use Rattle.bsp_rows.specs.declared.keys.MemoKey.{MemoKey}
use Rattle.bsp_messages.specs.declared.airline_bodies.MemoIssue.{MemoIssue}
use Rattle.bsp_office_spec.specs.AirlineLedger.{AirlineLedger, airline_answer, airline_ledger_of, issue_key, new_memo}
use Rattle.bsp_office_spec.specs.AirlineView.{AirlineSight, airline_all, airline_view}
use Rattle.bsp_office_spec.specs.AirlineView.AirlineSight.{OwnAsked, ActedOn, Published}
use Rattle.bsp_office_spec.specs.Answers.{is_done}
use Rattle.bsp_office_spec.specs.Ledger.{Ledger, ledger_of, memo_named, review_of}
use Rattle.bsp_office_spec.specs.Requests.{AgentRequest, AirlineRequest}
use Rattle.bsp_office_spec.specs.Requests.AgentRequest.{DisputeMemo, AgreeMemo}
use Rattle.bsp_office_spec.specs.Requests.AirlineRequest.{IssueMemo, UpholdMemo, WithdrawMemo, ReduceMemo}
use Rattle.bsp_office_spec.specs.View.{AllFit, Exchange, Run, Sight, ledger_all, view}
use Rattle.bsp_office_spec.specs.View.Sight.{Own, Issued, Acted, Planned}

-- ---- items

-- alive over a list of items: it is a CANX, or the list has no CANX of its number
abbrev pub is_alive : List Item → Item → Bool
is_alive items i = is_canx i || not (cancelled i.transaction.document.number items)

-- each item of the list lives exactly where it is alive over the list
abbrev pub LiveByTheList : List Item → Type 0
LiveByTheList items = (i : Item) → Contains items i → i.lives ≡ is_alive items i

-- ---- what happens to the memo of a key

-- by an action on a memo: nothing, where it is that of another key
abbrev pub action_events : MemoKey → Action → MemoKey → CivilDay → List Event
action_events key action other day = if eq_by_cmp memo_cmp key other then Happened action day ∷ [] else []

-- by a request for the plan: a close may bill it
abbrev pub plan_events : PlanRequest → CivilDay → List Event
plan_events (Publish text) day = []
plan_events (SetDay other) day = []
plan_events (Close period) day = Closed period day ∷ []

-- the plan after a request for it
abbrev pub plan_after : PlanRequest → Plan → Plan
plan_after request p = plan_left p (outcome p request)

-- what a memo is after these events. A close has billed it if and only if it was the first to admit it, as the actions before that close left it, at its amount then
pub record IsMadeBy (review : ℕ) (events : List Event) (memo end : MemoFields) : Type 0 where
  pub is : end ≡ after_events review events memo
  pub billed : MatchOption end.billed (NoCloseAdmits review events memo) (λ period. IsFirstToAdmit review events memo period end.amount)

-- ---- an agent's ledger

-- by its own request, whatever it is answered
abbrev pub request_events : MemoKey → AgentRequest → CivilDay → List Event
request_events key (DisputeMemo (Some body)) day = action_events key Dispute (memo_named body) day
request_events key (AgreeMemo (Some body)) day = action_events key Agree (memo_named body) day
request_events key _ day = []

-- by what the agent sees
abbrev pub sight_events : MemoKey → CivilDay → Sight → List Event
sight_events key day (Own call) = request_events key call day
sight_events key day (Acted action other) = action_events key action other day
sight_events key day (Planned request) = plan_events request day
sight_events key day _ = []

-- the plan after a sight
abbrev pub plan_seen : Plan → Sight → Plan
plan_seen p (Planned request) = plan_after request p
plan_seen p _ = p

-- all that happens to it over these sights, each on the business day of its time
abbrev pub memo_events : MemoKey → Plan → List Sight → List Event
memo_events key p [] = []
memo_events key p (s ∷ ss) = sight_events key p.day s ++ memo_events key (plan_seen p s) ss

-- among these sights the memo of the key is issued
pub record IsIssuedIn (key : MemoKey) (sights : List Sight) : Type 0 where
  pub before : List Sight
  pub airline : ℕ
  pub issue : MemoIssue
  pub later : List Sight
  pub split : sights ≡ before ++ Issued airline issue ∷ later
  pub key_is : issue_key airline issue.document ≡ key

module _ (agent : ℕ) (start : Ledger) (sights : List Sight) where
  -- the memo of a key in the end
  abbrev pub memo_left : MemoKey → Option MemoFields
  memo_left key = get (ledger_all agent start sights).own.memos key

  -- the memo that an airline issues after these sights is in the end what is seen later makes of it
  abbrev pub IsMadeSince : List Sight → ℕ → MemoIssue → List Sight → Type 0
  IsMadeSince before airline issue later =
      let plan = (ledger_all agent start before).published in
      let key = issue_key airline issue.document in
      (end : MemoFields) × (memo_left key ≡ Some end) × IsMadeBy (review_of plan.terms) (memo_events key plan later) (new_memo airline agent issue plan.day) end

  -- what it has in the end follows from its items, and from what was seen
  pub record NeedsNoMarks : Type 0 where
    pub items : LiveByTheList (values (ledger_all agent start sights).own.items)
    -- a memo of the start is what is seen makes of it
    pub kept : (key : MemoKey) (memo : MemoFields) → get start.own.memos key ≡ Some memo →
        memo_left key ≡ Some (after_events (review_of start.published.terms) (memo_events key start.published sights) memo)
    -- one that is issued is what is seen since makes of it
    pub issued : (before later : List Sight) (airline : ℕ) (issue : MemoIssue) → sights ≡ before ++ Issued airline issue ∷ later → IsMadeSince before airline issue later
    -- and there is no other
    pub no_other : (key : MemoKey) (memo : MemoFields) → memo_left key ≡ Some memo → IsSome (get start.own.memos key) ⊎ IsIssuedIn key sights

-- its ledger after any first part of these exchanges
abbrev pub AgentNeedsNoMarks : ℕ → Rows → List Exchange → Type 0
AgentNeedsNoMarks agent rows exchanges =
    (before after : List Exchange) → exchanges ≡ before ++ after → NeedsNoMarks agent (ledger_of agent rows) (view agent (ledger_of agent rows) before)

-- ---- an airline's ledger

-- by its own request, whatever it is answered
abbrev pub airline_request_events : ℕ → MemoKey → AirlineRequest → CivilDay → List Event
airline_request_events airline key (UpholdMemo (Some document)) day = action_events key Uphold (issue_key airline document) day
airline_request_events airline key (WithdrawMemo (Some document)) day = action_events key Withdraw (issue_key airline document) day
airline_request_events airline key (ReduceMemo (Some body)) day = action_events key (Reduce body.amount) (issue_key airline body.document) day
airline_request_events airline key _ day = []

-- by what the airline sees
abbrev pub airline_sight_events : ℕ → MemoKey → CivilDay → AirlineSight → List Event
airline_sight_events airline key day (OwnAsked call) = airline_request_events airline key call day
airline_sight_events airline key day (ActedOn action other) = action_events key action other day
airline_sight_events airline key day (Published request) = plan_events request day
airline_sight_events airline key day _ = []

-- the plan after a sight
abbrev pub airline_plan_seen : Plan → AirlineSight → Plan
airline_plan_seen p (Published request) = plan_after request p
airline_plan_seen p _ = p

-- all that happens to it over these sights, each on the business day of its time
abbrev pub airline_memo_events : ℕ → MemoKey → Plan → List AirlineSight → List Event
airline_memo_events airline key p [] = []
airline_memo_events airline key p (s ∷ ss) = airline_sight_events airline key p.day s ++ airline_memo_events airline key (airline_plan_seen p s) ss

module _ (airline : ℕ) (start : AirlineLedger) (sights : List AirlineSight) where
  -- the memo of a key in the end
  abbrev pub airline_memo_left : MemoKey → Option MemoFields
  airline_memo_left key = get (airline_all airline start sights).own.memos key

  -- after these sights it issues a memo to an agent, and that is done
  pub record Issues (before : List AirlineSight) (issue : MemoIssue) (agent : ℕ) (later : List AirlineSight) : Type 0 where
    pub split : sights ≡ before ++ OwnAsked (IssueMemo (Some issue)) ∷ later
    pub done : is_done (airline_answer airline (airline_all airline start before) (IssueMemo (Some issue))) ≡ true
    pub to : issue.agent.code ≡ Some agent

  -- the memo is in the end what is seen later makes of it
  abbrev pub IsAirlineMadeSince : List AirlineSight → MemoIssue → ℕ → List AirlineSight → Type 0
  IsAirlineMadeSince before issue agent later =
      let plan = (airline_all airline start before).published in
      let key = issue_key airline issue.document in
      (end : MemoFields) × (airline_memo_left key ≡ Some end) × IsMadeBy (review_of plan.terms) (airline_memo_events airline key plan later) (new_memo airline agent issue plan.day) end

  -- among the sights the memo of the key is issued
  pub record IsAirlineIssuedIn (key : MemoKey) : Type 0 where
    pub before : List AirlineSight
    pub issue : MemoIssue
    pub agent : ℕ
    pub later : List AirlineSight
    pub issues : Issues before issue agent later
    pub key_is : issue_key airline issue.document ≡ key

  -- what it has in the end follows from its items, and from what was seen
  pub record NeedsNoAirlineMarks : Type 0 where
    pub items : LiveByTheList (values (airline_all airline start sights).own.items)
    -- a memo of the start is what is seen makes of it
    pub kept : (key : MemoKey) (memo : MemoFields) → get start.own.memos key ≡ Some memo →
        airline_memo_left key ≡ Some (after_events (review_of start.published.terms) (airline_memo_events airline key start.published sights) memo)
    -- one that is issued is what is seen since makes of it
    pub issued : (before later : List AirlineSight) (issue : MemoIssue) (agent : ℕ) → Issues before issue agent later → IsAirlineMadeSince before issue agent later
    -- and there is no other
    pub no_other : (key : MemoKey) (memo : MemoFields) → airline_memo_left key ≡ Some memo → IsSome (get start.own.memos key) ⊎ IsAirlineIssuedIn key

-- its ledger after any first part of these exchanges
abbrev pub AirlineNeedsNoMarks : ℕ → Rows → List Exchange → Type 0
AirlineNeedsNoMarks airline rows exchanges =
    (before after : List Exchange) → exchanges ≡ before ++ after → NeedsNoAirlineMarks airline (airline_ledger_of airline rows) (airline_view airline (airline_ledger_of airline rows) before)

-- ---- the laws, over runs from sound rows

-- each agent's
abbrev pub AgentsNeedNoMarks : Type 0
AgentsNeedNoMarks =
    (office : List ℕ) (rows : Rows) (exchanges : List Exchange) (new : Rows) (agent : ℕ) → Run office rows exchanges new → AllFit exchanges → Sound rows → AgentNeedsNoMarks agent rows exchanges

-- each airline's
abbrev pub AirlinesNeedNoMarks : Type 0
AirlinesNeedNoMarks =
    (office : List ℕ) (rows : Rows) (exchanges : List Exchange) (new : Rows) (airline : ℕ) → Run office rows exchanges new → AllFit exchanges → Sound rows → AirlineNeedsNoMarks airline rows exchanges
