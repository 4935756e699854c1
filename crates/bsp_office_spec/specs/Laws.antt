-- What holds of every request, of every run, and of what one agent is answered.
use Rattle.std.specs.Prelude.{◌≡◌, ◌≢◌, ◌⊎◌, ℕ, ℤ, ◌==◌, Bool, true, false, List, [], ◌∷◌, ◌++◌, map, Option, Some, None, option_map, is_some, Ok, if◌then◌else◌}
use Rattle.std.specs.List.{AllPairs, Contains, list_any}
use Rattle.bsp_routes.specs.declared.asking.Asking.{Asking}
use Rattle.bsp_messages.specs.Values.{airline_in}
use Rattle.bsp_messages.specs.declared.refusal.RequestRefusal.TheVariants.{Forbidden}
use Rattle.bsp_rows.specs.Transaction.{Transaction}
use Rattle.bsp_rows.specs.Item.{Item}
use Rattle.bsp_rows.specs.Verdict.{Verdict}
use Rattle.bsp_rows.specs.Verdict.TheVariants as verdict
use Rattle.std.specs.FinMap.{FinMap, values}
use Rattle.bsp_rows.specs.RulesAmounts.{sum_of}
use Rattle.bsp_rows.specs.Meanings.{ends_tickets}
use Rattle.bsp_rows.specs.RulesRows.{is_ticket}
use Rattle.bsp_rows.specs.Tickets.{disagrees_with_tickets}
use Rattle.bsp_rows.specs.Verdicts.{is_missing}
use Rattle.bsp_rows.specs.RelatedDocument.{RelatedDocument}
use Rattle.bsp_rows.specs.ReportedDocument.{ReportedDocument}
use Rattle.bsp_rows.specs.Nets.{net_of_rows}
use Rattle.bsp_rows.specs.Sides.{AreOnce, HaveAgents, HaveAirlines}
use Rattle.bsp_rows.specs.Published.{closed_period, is_taxed}
use Rattle.bsp_rows.specs.Period.{Period}
use Rattle.bsp_rows.specs.Owed.{is_billed_in}
use Rattle.bsp_rows.specs.MemoFields.{MemoFields}
use Rattle.bsp_rows.specs.Part.{kept}
use Rattle.bsp_rows.specs.Rows.{Rows, item_at, item_cmp, memo_cmp}
use Rattle.bsp_hot_check.specs.Hot.{file_sums}
use Rattle.bsp_hot_check.specs.Sums.{with_net}
use Rattle.bsp_office_spec.specs.AirlineLedger.{AirlineLedger, airline_answer, airline_ledger_of, hot_answer, hot_rows}
use Rattle.bsp_rows.specs.declared.keys.ItemKey.{ItemKey}
use Rattle.bsp_rows.specs.Sound.{Sound}
use Rattle.bsp_office_spec.specs.AirlineView.{airline_all, airline_ledger_answers, airline_sights, airline_told, airline_view}
use Rattle.bsp_office_spec.specs.Answers.{Answer, is_done, verdicts_in}
use Rattle.bsp_office_spec.specs.Answers.Answer.{Verdicts, Statement, Settlement, Hot, Refused}
use Rattle.bsp_office_spec.specs.Ledger.{Ledger, agent_of, ledger_answer, ledger_of, own_verdicts, statement_answer}
use Rattle.bsp_office_spec.specs.Requests.{AgentRequest, AirlineRequest, Asked, FileRead, IsAsked, IsFileOf, Request}
use Rattle.bsp_office_spec.specs.Requests.AgentRequest.{AgentFile, AskStatement}
use Rattle.bsp_office_spec.specs.Requests.AirlineRequest.{AskHot}
use Rattle.bsp_office_spec.specs.Requests.Asked.{ByOffice, ByAgent, ByAirline}
use Rattle.bsp_office_spec.specs.Requests.OfficeRequest.{OfficeFile, AskSettlement}
use Rattle.bsp_office_spec.specs.Step.{AreGroups, Fits, answer_of, bearer, is_token, office_verdicts, reporter, rows_after, rows_filed, settlement_answer}
use Rattle.bsp_office_spec.specs.Texts.{IsHotText}
use Rattle.bsp_office_spec.specs.View.{AllFit, Exchange, Run, is_own, ledger_all, ledger_answers, sights, told, view}

-- ---- one request

-- each body is the transactions of a RET file, or has a first fault
abbrev pub EachFileIsRead : Type 0
EachFileIsRead = (body : List ℕ) → (read : FileRead) × IsFileOf body read

-- each call with the bytes of its body is read as some request
abbrev pub EachRequestIsRead : Type 0
EachRequestIsRead = (asking : Asking (List ℕ)) (body : List ℕ) → (asked : Asked) × IsAsked asking body asked

-- what a call and the bytes of its body are read as: each transaction of its file is a group of the RET format
abbrev pub ReadRequestsFit : Type 0
ReadRequestsFit = (asking : Asking (List ℕ)) (body : List ℕ) (asked : Asked) → IsAsked asking body asked → Fits asked

-- sound rows stay sound
abbrev pub StepIsSound : Type 0
StepIsSound = (office : List ℕ) (rows : Rows) (request : Request) → Sound rows → Fits request.asked → Sound (rows_after rows request (answer_of office rows request))

-- an answer that is neither a done change nor a list of verdicts leaves the rows as they are
abbrev pub RefusalsChangeNothing : Type 0
RefusalsChangeNothing = (rows : Rows) (request : Request) (answer : Answer) → is_done answer ≡ false → verdicts_in answer ≡ [] → rows_after rows request answer ≡ rows

-- ---- an agent: one request

-- its own request is answered by its ledger alone
abbrev pub OwnIsAnsweredByLedger : Type 0
OwnIsAnsweredByLedger =
    (office : List ℕ) (agent : ℕ) (rows : Rows) (token : Option (List ℕ)) (code : List ℕ) (call : AgentRequest) →
    is_own agent (ledger_of agent rows) token code ≡ true →
    answer_of office rows (record { token = token; asked = ByAgent code call }) ≡ ledger_answer agent (ledger_of agent rows) call

-- a request that names it with another token is forbidden
abbrev pub OthersAreForbidden : Type 0
OthersAreForbidden =
    (office : List ℕ) (agent : ℕ) (rows : Rows) (token : Option (List ℕ)) (code : List ℕ) (call : AgentRequest) →
    agent_of code ≡ Some agent → is_token (ledger_of agent rows).own.token token ≡ false →
    answer_of office rows (record { token = token; asked = ByAgent code call }) ≡ Refused Forbidden

-- what any request makes of its ledger is what it sees of the answer
abbrev pub LedgerIsOfSights : Type 0
LedgerIsOfSights =
    (office : List ℕ) (agent : ℕ) (rows : Rows) (request : Request) →
    let answer = answer_of office rows request in
    ledger_of agent (rows_after rows request answer) ≡ ledger_all agent (ledger_of agent rows) (sights agent (ledger_of agent rows) request answer)

-- ---- an airline: one request

-- an airline's request with its token is answered by its ledger; one with another token is 403
abbrev pub AirlineIsAnsweredByLedger : Type 0
AirlineIsAnsweredByLedger =
    (office : List ℕ) (airline : ℕ) (rows : Rows) (token : Option (List ℕ)) (code : List ℕ) (call : AirlineRequest) → airline_in code ≡ Some airline →
    answer_of office rows (record { token = token; asked = ByAirline code call })
    ≡ (if is_token (airline_ledger_of airline rows).own.token token then airline_answer airline (airline_ledger_of airline rows) call else Refused Forbidden)

-- what any request makes of its ledger is what it sees of the answer
abbrev pub AirlineLedgerIsOfSights : Type 0
AirlineLedgerIsOfSights =
    (office : List ℕ) (airline : ℕ) (rows : Rows) (request : Request) → Sound rows → Fits request.asked →
    let answer = answer_of office rows request in
    let l = airline_ledger_of airline rows in
    airline_ledger_of airline (rows_after rows request answer) ≡ airline_all airline l (airline_sights airline l request.token request.asked answer)

-- ---- whole runs

-- a run keeps sound rows sound
abbrev pub RunIsSound : Type 0
RunIsSound = (office : List ℕ) (rows : Rows) (exchanges : List Exchange) (new : Rows) → Run office rows exchanges new → AllFit exchanges → Sound rows → Sound new

-- the answers to an agent are those of its ledger over its view, and so is its part of the rows in the end
abbrev pub AgentIsIsolated : Type 0
AgentIsIsolated =
    (office : List ℕ) (agent : ℕ) (rows : Rows) (exchanges : List Exchange) (new : Rows) → Run office rows exchanges new →
    let start = ledger_of agent rows in
    (told agent start exchanges ≡ ledger_answers agent start (view agent start exchanges)) × (ledger_of agent new ≡ ledger_all agent start (view agent start exchanges))

-- of two runs in which its part at the start and its view are equal, the answers to it are equal
abbrev pub AgentsAreAlike : Type 0
AgentsAreAlike =
    (office other : List ℕ) (agent : ℕ) (rows rows' : Rows) (exchanges exchanges' : List Exchange) (new new' : Rows) →
    Run office rows exchanges new → Run other rows' exchanges' new' →
    ledger_of agent rows ≡ ledger_of agent rows' → view agent (ledger_of agent rows) exchanges ≡ view agent (ledger_of agent rows') exchanges' →
    told agent (ledger_of agent rows) exchanges ≡ told agent (ledger_of agent rows') exchanges'

-- the answers to an airline are those of its ledger over its view, and so is its part of the rows in the end
abbrev pub AirlineIsIsolated : Type 0
AirlineIsIsolated =
    (office : List ℕ) (airline : ℕ) (rows : Rows) (exchanges : List Exchange) (new : Rows) → Run office rows exchanges new → AllFit exchanges → Sound rows →
    let start = airline_ledger_of airline rows in
    (airline_told airline start exchanges ≡ airline_ledger_answers airline start (airline_view airline start exchanges))
    × (airline_ledger_of airline new ≡ airline_all airline start (airline_view airline start exchanges))

-- of two runs in which its part at the start and its view are equal, the answers to it are equal
abbrev pub AirlinesAreAlike : Type 0
AirlinesAreAlike =
    (office other : List ℕ) (airline : ℕ) (rows rows' : Rows) (exchanges exchanges' : List Exchange) (new new' : Rows) →
    Run office rows exchanges new → Run other rows' exchanges' new' → AllFit exchanges → AllFit exchanges' → Sound rows → Sound rows' →
    airline_ledger_of airline rows ≡ airline_ledger_of airline rows' →
    airline_view airline (airline_ledger_of airline rows) exchanges ≡ airline_view airline (airline_ledger_of airline rows') exchanges' →
    airline_told airline (airline_ledger_of airline rows) exchanges ≡ airline_told airline (airline_ledger_of airline rows') exchanges'

-- ---- repeats

-- the agent has an accepted transaction with these values, in this period
pub record HasAccepted (rows : Rows) (agent : ℕ) (t : Transaction) (period : ℕ) : Type 0 where
  pub key : ItemKey
  pub own : key.agent ≡ agent
  pub item : Item
  pub there : item_at key rows ≡ Some item
  pub content : item.transaction ≡ t
  pub period_is : item.period ≡ period

-- the transaction is accepted in this period at some place of a file
abbrev pub IsAcceptedIn : Transaction → ℕ → List Transaction → List Verdict → Type 0
IsAcceptedIn t period (u ∷ us) (v ∷ vs) = ((u ≡ t) × (v ≡ verdict.Accepted period)) ⊎ IsAcceptedIn t period us vs
IsAcceptedIn t period _ _ = ⊥

-- at each place of a file where the transaction is, it is held in this period
abbrev pub IsHeldIn : Transaction → ℕ → List Transaction → List Verdict → Type 0
IsHeldIn t period [] [] = Unit {0}
IsHeldIn t period (u ∷ us) (v ∷ vs) = (u ≡ t → v ≡ verdict.Held period) × IsHeldIn t period us vs
IsHeldIn t period _ _ = ⊥

-- what an agent's file or the office's has accepted, the agent has accepted
abbrev pub FilesAreTaken : Type 0
FilesAreTaken =
    (rows : Rows) (agent : ℕ) (t : Transaction) (period : ℕ) (ts : List Transaction) → Sound rows → AreGroups ts → agent_of t.agent ≡ Some agent →
    (IsAcceptedIn t period ts (office_verdicts rows ts) → HasAccepted (rows_filed bearer ts (office_verdicts rows ts) rows) agent t period)
    × (IsAcceptedIn t period ts (own_verdicts agent (ledger_of agent rows) ts) → HasAccepted (rows_filed (reporter (Some agent)) ts (own_verdicts agent (ledger_of agent rows) ts) rows) agent t period)

-- it stays so over any run, after a CANX too, and whenever its agent or the office reports it again it is held in that period
abbrev pub RepeatsAreHeld : Type 0
RepeatsAreHeld =
    (office : List ℕ) (rows : Rows) (exchanges : List Exchange) (new : Rows) (agent : ℕ) (t : Transaction) (period : ℕ) (ts : List Transaction) →
    Run office rows exchanges new → AllFit exchanges → Sound rows → HasAccepted rows agent t period → AreGroups ts →
    HasAccepted new agent t period × IsHeldIn t period ts (office_verdicts new ts) × IsHeldIn t period ts (own_verdicts agent (ledger_of agent new) ts)

-- ---- repeats within a run

-- the transactions of the file that a request brings
abbrev pub file_of : Asked → List Transaction
file_of (ByOffice (OfficeFile (Ok ts))) = ts
file_of (ByAgent code (AgentFile (Ok ts))) = ts
file_of _ = []

-- the verdicts that are replied, none where the reply has none
abbrev pub verdicts_of : Exchange → List Verdict
verdicts_of p = by p.reply where
  by : Option Answer → List Verdict
  by None = []
  by (Some answer) = verdicts_in answer

-- a file of the office, or of the agent that the transaction bears
abbrev pub IsFileFor : Transaction → Asked → Type 0
IsFileFor t (ByOffice (OfficeFile file)) = Unit {0}
IsFileFor t (ByAgent code (AgentFile file)) = agent_of code ≡ agent_of t.agent
IsFileFor t _ = ⊥

-- the reply accepts the transaction in this period at some place of the file
abbrev pub Accepts : Exchange → Transaction → ℕ → Type 0
Accepts p t period = IsAcceptedIn t period (file_of p.request.asked) (verdicts_of p)

-- where the file is the office's or its agent's, and verdicts are the reply, it is held in this period at each place
abbrev pub Holds : Exchange → Transaction → ℕ → Type 0
Holds p t period = (vs : List Verdict) → IsFileFor t p.request.asked → p.reply ≡ Some (Verdicts vs) → IsHeldIn t period (file_of p.request.asked) vs

-- accepted in this period at a place of a file, it is held in it at each later place
abbrev pub IsHeldBehind : Transaction → ℕ → List Transaction → List Verdict → Type 0
IsHeldBehind t period [] [] = Unit {0}
IsHeldBehind t period (u ∷ us) (v ∷ vs) = (u ≡ t → v ≡ verdict.Accepted period → IsHeldIn t period us vs) × IsHeldBehind t period us vs
IsHeldBehind t period _ _ = ⊥

-- what is accepted once is held ever after
pub record RepeatsHeld (rows : Rows) (exchanges : List Exchange) : Type 0 where
  -- accepted before these exchanges, in each of them
  pub known : (before after : List Exchange) (q : Exchange) (agent : ℕ) (t : Transaction) (period : ℕ) →
      exchanges ≡ before ++ q ∷ after → HasAccepted rows agent t period → Holds q t period
  -- accepted in one of them, in each later one
  pub later : (before between after : List Exchange) (p q : Exchange) (t : Transaction) (period : ℕ) →
      exchanges ≡ before ++ (p ∷ between ++ q ∷ after) → Accepts p t period → Holds q t period
  -- and at each later place of the same file
  pub behind : (before after : List Exchange) (p : Exchange) (t : Transaction) (period : ℕ) →
      exchanges ≡ before ++ p ∷ after → Accepts p t period → IsHeldBehind t period (file_of p.request.asked) (verdicts_of p)

-- a run from sound rows holds what was accepted before it, or by it
abbrev pub RunsHoldRepeats : Type 0
RunsHoldRepeats = (office : List ℕ) (rows : Rows) (exchanges : List Exchange) (new : Rows) → Run office rows exchanges new → AllFit exchanges → Sound rows → RepeatsHeld rows exchanges

-- ---- one owner

-- two accepted transactions of one document number are of one agent
abbrev pub NumbersHaveOneOwner : Type 0
NumbersHaveOneOwner =
    (rows : Rows) (k l : ItemKey) (i j : Item) → Sound rows → item_at k rows ≡ Some i → item_at l rows ≡ Some j → k.number ≡ l.number → k.agent ≡ l.agent

-- ---- values

-- two places that do not name one number
abbrev pub AreOfTwoNumbers : Option ReportedDocument → Option ReportedDocument → Type 0
AreOfTwoNumbers (Some d) (Some e) = d.number ≢ e.number
AreOfTwoNumbers _ _ = Unit {0}

-- the tickets that a transaction of the agent names, none twice, are accepted, and its amounts agree with theirs. Of an RFND the fare and each tax are at most the ticket's in size; of an exchange EX is the fares and taxes of all its tickets
pub record AgreesWithTickets (rows : Rows) (agent : ℕ) (t : Transaction) : Type 0 where
  pub related : List (Option RelatedDocument)
  pub places : map (option_map (λ r. r.document)) related ≡ t.related
  pub once : AllPairs AreOfTwoNumbers t.related
  -- each ticket is an accepted TKTT of the agent
  pub tickets : (r : RelatedDocument) (i : Item) → Contains related (Some r) → r.ticket ≡ Some i → (is_ticket r.document i ≡ true) × HasAccepted rows agent i.transaction i.period
  -- an RFND or an exchange names one, and none is missing
  pub none_missing : ends_tickets t.code (is_some t.exchange) ≡ true → (list_any is_some related ≡ true) × (list_any (is_missing t.document.airline) related ≡ false)
  pub agreed : disagrees_with_tickets t related ≡ false

-- the transaction was accepted before
abbrev pub WasThere : Rows → ItemKey → Item → Type 0
WasThere rows k i = (j : Item) × (item_at k rows ≡ Some j) × (j.transaction ≡ i.transaction)

-- what a run has accepted agrees with its tickets, so that no value is given back twice
abbrev pub NewAgreeWithTickets : Rows → Rows → Type 0
NewAgreeWithTickets rows new = (k : ItemKey) (i : Item) → item_at k new ≡ Some i → WasThere rows k i ⊎ AgreesWithTickets new k.agent i.transaction

-- so it is of each run from sound rows
abbrev pub RunsAgreeWithTickets : Type 0
RunsAgreeWithTickets = (office : List ℕ) (rows : Rows) (exchanges : List Exchange) (new : Rows) → Run office rows exchanges new → AllFit exchanges → Sound rows → NewAgreeWithTickets rows new

-- ---- nets

-- the net of a period that a ledger gives: cash less commission less the tax on it of its living items, and the memos billed in it
abbrev pub ledger_net : ℕ → Ledger → ℤ
ledger_net code l = net_of_rows code (values l.own.items) (values l.own.memos)

-- the same of an airline's ledger
abbrev pub airline_ledger_net : ℕ → AirlineLedger → ℤ
airline_ledger_net code l = net_of_rows code (values l.own.items) (values l.own.memos)

-- the agents' nets of a period, each of its own ledger, and the airlines' have one sum: over any lists of agents and of airlines, none twice, that have those of each row of the period
abbrev pub NetsAddUp : ℕ → Rows → Type 0
NetsAddUp code rows =
    (agents airlines : List ℕ) → AreOnce agents → AreOnce airlines →
    HaveAgents code (values rows.items) (values rows.memos) agents → HaveAirlines code (values rows.items) (values rows.memos) airlines →
    sum_of (map (λ a. ledger_net code (ledger_of a rows)) agents) ≡ sum_of (map (λ c. airline_ledger_net code (airline_ledger_of c rows)) airlines)

-- in sound rows they do so, for each period
abbrev pub NetsAlwaysAddUp : Type 0
NetsAlwaysAddUp = (rows : Rows) (code : ℕ) → Sound rows → NetsAddUp code rows

-- the net of the totals of an airline's HOT file, in either form, is that of its ledger
abbrev pub HotFilesShowNets : Type 0
HotFilesShowNets =
    (rows : Rows) (airline code : ℕ) (q : Period) (text : List ℕ) → Sound rows → closed_period rows.published code ≡ Some q →
    let l = airline_ledger_of airline rows in
    (is : IsHotText airline (hot_rows l q) text) → (with_net (file_sums is.2.file.offices)).net ≡ airline_ledger_net code l

-- ---- closed periods

-- the items of a period
abbrev pub items_in : ℕ → Rows → FinMap item_cmp Item
items_in code rows = kept (λ e. e.1.period == code) rows.items

-- the memos billed in a period
abbrev pub memos_in : ℕ → Rows → FinMap memo_cmp MemoFields
memos_in code rows = kept (λ e. is_billed_in code e.1) rows.memos

-- a period with all that is reported of it
pub record IsPeriodKept (code : ℕ) (old new : Rows) : Type 0 where
  pub period : closed_period new.published code ≡ closed_period old.published code
  -- its form, by which a statement and a HOT file have the tax on commission
  pub form : (q : Period) → closed_period old.published code ≡ Some q → is_taxed new.published q ≡ is_taxed old.published q
  pub terms : new.published.terms ≡ old.published.terms
  pub items : items_in code new ≡ items_in code old
  pub memos : memos_in code new ≡ memos_in code old

-- a closed period stays as it is over any run
abbrev pub ClosedPeriodsStay : Type 0
ClosedPeriodsStay =
    (office : List ℕ) (rows : Rows) (exchanges : List Exchange) (new : Rows) (code : ℕ) (q : Period) → Run office rows exchanges new → AllFit exchanges → Sound rows →
    closed_period rows.published code ≡ Some q → IsPeriodKept code rows new

-- and so do the settlement, each agent's statement and each airline's HOT file of it
abbrev pub ReportsStay : Type 0
ReportsStay =
    (office : List ℕ) (rows : Rows) (exchanges : List Exchange) (new : Rows) (code : ℕ) (q : Period) → Run office rows exchanges new → AllFit exchanges → Sound rows →
    closed_period rows.published code ≡ Some q →
    (settlement_answer (Some code) new ≡ settlement_answer (Some code) rows)
    × ((agent : ℕ) → statement_answer agent (ledger_of agent new) (Some code) ≡ statement_answer agent (ledger_of agent rows) (Some code))
    × ((airline : ℕ) → hot_answer airline (airline_ledger_of airline new) (Some code) ≡ hot_answer airline (airline_ledger_of airline rows) (Some code))

-- ---- reports within a run

-- a request for a settlement, a statement or a HOT file that is answered with it
abbrev pub shows_report : Asked → Answer → Bool
shows_report (ByOffice (AskSettlement period)) (Settlement report) = true
shows_report (ByAgent code (AskStatement period)) (Statement agent taxed report) = true
shows_report (ByAirline code (AskHot period)) (Hot airline rows) = true
shows_report _ _ = false

-- once it is shown, each later request for it has the same answer, but for 503 and for 403
abbrev pub ShownReportsStay : List Exchange → Type 0
ShownReportsStay exchanges =
    (before between after : List Exchange) (p q : Exchange) (shown answer : Answer) →
    exchanges ≡ before ++ (p ∷ between ++ q ∷ after) → p.reply ≡ Some shown → shows_report p.request.asked shown ≡ true →
    q.request.asked ≡ p.request.asked → q.reply ≡ Some answer → (answer ≡ shown) ⊎ (answer ≡ Refused Forbidden)

-- so it is in each run from sound rows
abbrev pub RunsShowTheSame : Type 0
RunsShowTheSame = (office : List ℕ) (rows : Rows) (exchanges : List Exchange) (new : Rows) → Run office rows exchanges new → AllFit exchanges → Sound rows → ShownReportsStay exchanges
