-- Requests with their bodies read, and how they are read from a call's path and bytes.
use Rattle.std.specs.Prelude.{◌≡◌, ◌⊎◌, ℕ, ◌<◌, ◌^◌, List, length, Option, Result, Ok, Err, Some}
use Rattle.std.specs.Result.{result_map_both}
use Rattle.bsp_rows.specs.CivilDay.{CivilDay}
use Rattle.bsp_calendar.specs.PlanDocument.{PlanData, plan_data, plan_reading}
use Rattle.bsp_rows.specs.PlanText.{PlanText}
use Rattle.bsp_rows.specs.PlanFault.{PlanFault}
use Rattle.bsp_rows.specs.PlanFault.TheVariants.{NoMemory}
use Rattle.bsp_rows.specs.Lines.{lines}
use Rattle.bsp_hot.specs.Ret.{File, Ret}
use Rattle.bsp_hot.specs.Table.{first_fault}
use Rattle.bsp_rows.specs.Writing.{HaveContents}
use Rattle.bsp_hot.specs.RetFault.{RetFault}
use Rattle.bsp_rows.specs.Transaction.{Transaction}
use Rattle.bsp_routes.specs.declared.asking.Asking.{Asking}
use Rattle.bsp_routes.specs.declared.asking.Asking.TheVariants as asking
use Rattle.bsp_routes.specs.declared.call.Call.TheVariants as call
use Rattle.bsp_routes.specs.declared.call.OfficeCall.{OfficeCall}
use Rattle.bsp_routes.specs.declared.call.OfficeCall.TheVariants as office
use Rattle.bsp_routes.specs.declared.call.AgentCall.{AgentCall}
use Rattle.bsp_routes.specs.declared.call.AgentCall.TheVariants as agent
use Rattle.bsp_routes.specs.declared.call.AirlineCall.{AirlineCall}
use Rattle.bsp_routes.specs.declared.call.AirlineCall.TheVariants as airline
use Rattle.bsp_messages.specs.Bodies.{agent_registration_form, airline_registration_form, body_of, day_form, document_form, issue_form, named_memo_form, period_form, reduction_form, stock_change_form}
use Rattle.bsp_messages.specs.declared.airline_bodies.MemoIssue.{MemoIssue}
use Rattle.bsp_messages.specs.declared.airline_bodies.Reduction.{Reduction}
use Rattle.bsp_messages.specs.declared.memo_bodies.NamedMemo.{NamedMemo}
use Rattle.bsp_messages.specs.declared.office_bodies.AgentRegistration.{AgentRegistration}
use Rattle.bsp_messages.specs.declared.office_bodies.AirlineRegistration.{AirlineRegistration}
use Rattle.bsp_messages.specs.declared.office_bodies.StockChange.{StockChange}

-- ---- what a RET body and a plan text are read as

-- the transactions of a RET file, or its first fault
abbrev pub FileRead : Type 0
FileRead = Result (List Transaction) RetFault

-- what a plan text says, or its first fault
abbrev pub PlanRead : Type 0
PlanRead = Result PlanText PlanFault

-- the body is a RET file of these transactions, or has this first fault
abbrev pub IsFileOf : List ℕ → FileRead → Type 0
IsFileOf body (Ok ts) = (file : File) × Ret (lines body) file × HaveContents 1 file.groups ts
IsFileOf body (Err fault) = first_fault (lines body) ≡ Some fault

-- no list of a plan has 2^63 entries, more than any memory holds
abbrev pub IsInMemory : PlanData → Type 0
IsInMemory said = (length said.airlines < 2 ^ 63) × (length said.rates < 2 ^ 63) × (length said.periods < 2 ^ 63) × (length said.commission_taxes < 2 ^ 63)

-- the text says such a list
abbrev pub IsBeyondMemory : List ℕ → Type 0
IsBeyondMemory body = (said : PlanData) × (plan_reading body ≡ Ok said) × (IsInMemory said → ⊥)

-- what the text says, or its first fault; of one that says more than any memory holds it is the want of it, a 503
abbrev pub IsPlanOf : List ℕ → PlanRead → Type 0
IsPlanOf body text = (result_map_both plan_data (λ fault. fault) text ≡ plan_reading body) ⊎ (IsBeyondMemory body × (text ≡ Err NoMemory))

-- ---- requests by caller; no JSON body where it is malformed, and path values as bytes

-- what the office asks
pub data OfficeRequest : Type 0 where
  PublishPlan : (text : PlanRead) → OfficeRequest
  SetBusinessDay : (day : Option CivilDay) → OfficeRequest
  RegisterAgent : (body : Option AgentRegistration) → OfficeRequest
  RegisterAirline : (body : Option AirlineRegistration) → OfficeRequest
  AllotRange : (body : Option StockChange) → OfficeRequest
  WithdrawRange : (body : Option StockChange) → OfficeRequest
  OfficeFile : (file : FileRead) → OfficeRequest
  ClosePeriod : (period : Option ℕ) → OfficeRequest
  AskSettlement : (period : List ℕ) → OfficeRequest

-- what an agent asks
pub data AgentRequest : Type 0 where
  AgentFile : (file : FileRead) → AgentRequest
  AskDocument : (number : List ℕ) → AgentRequest
  AskPeriod : (period : List ℕ) → AgentRequest
  AskStock : AgentRequest
  AskMemos : AgentRequest
  DisputeMemo : (body : Option NamedMemo) → AgentRequest
  AgreeMemo : (body : Option NamedMemo) → AgentRequest
  AskStatement : (period : List ℕ) → AgentRequest

-- what an airline asks
pub data AirlineRequest : Type 0 where
  AskIssuedMemos : AirlineRequest
  IssueMemo : (body : Option MemoIssue) → AirlineRequest
  UpholdMemo : (document : Option ℕ) → AirlineRequest
  WithdrawMemo : (document : Option ℕ) → AirlineRequest
  ReduceMemo : (body : Option Reduction) → AirlineRequest
  AskHot : (period : List ℕ) → AirlineRequest

-- the code of an agent or an airline is that of the path, as bytes
pub data Asked : Type 0 where
  NoRoute : Asked
  OtherMethod : Asked
  ByOffice : (call : OfficeRequest) → Asked
  ByAgent : (code : List ℕ) → (call : AgentRequest) → Asked
  ByAirline : (code : List ℕ) → (call : AirlineRequest) → Asked

-- a request: its token, and what it asks
pub record Request : Type 0 where
  -- none where the message has none or several
  pub token : Option (List ℕ)
  pub asked : Asked

-- ---- how a call with the bytes of its body is read

-- a call of the office with this body is this request
abbrev pub IsOfficeRequest : OfficeCall (List ℕ) → List ℕ → OfficeRequest → Type 0
IsOfficeRequest office.Plan body asked = (text : PlanRead) × IsPlanOf body text × (asked ≡ PublishPlan text)
IsOfficeRequest office.Day body asked = asked ≡ SetBusinessDay (body_of day_form body)
IsOfficeRequest office.RegisterAgent body asked = asked ≡ RegisterAgent (body_of agent_registration_form body)
IsOfficeRequest office.RegisterAirline body asked = asked ≡ RegisterAirline (body_of airline_registration_form body)
IsOfficeRequest office.Allot body asked = asked ≡ AllotRange (body_of stock_change_form body)
IsOfficeRequest office.Withdraw body asked = asked ≡ WithdrawRange (body_of stock_change_form body)
IsOfficeRequest office.Ret body asked = (file : FileRead) × IsFileOf body file × (asked ≡ OfficeFile file)
IsOfficeRequest office.Close body asked = asked ≡ ClosePeriod (body_of period_form body)
IsOfficeRequest (office.Settlement period) body asked = asked ≡ AskSettlement period

-- a call of an agent with this body is this request
abbrev pub IsAgentRequest : AgentCall (List ℕ) → List ℕ → AgentRequest → Type 0
IsAgentRequest agent.Ret body asked = (file : FileRead) × IsFileOf body file × (asked ≡ AgentFile file)
IsAgentRequest (agent.Document number) body asked = asked ≡ AskDocument number
IsAgentRequest (agent.Period period) body asked = asked ≡ AskPeriod period
IsAgentRequest agent.Stock body asked = asked ≡ AskStock
IsAgentRequest agent.Memos body asked = asked ≡ AskMemos
IsAgentRequest agent.Dispute body asked = asked ≡ DisputeMemo (body_of named_memo_form body)
IsAgentRequest agent.Agree body asked = asked ≡ AgreeMemo (body_of named_memo_form body)
IsAgentRequest (agent.Statement period) body asked = asked ≡ AskStatement period

-- a call of an airline with this body is this request
abbrev pub IsAirlineRequest : AirlineCall (List ℕ) → List ℕ → AirlineRequest → Type 0
IsAirlineRequest airline.Memos body asked = asked ≡ AskIssuedMemos
IsAirlineRequest airline.Issue body asked = asked ≡ IssueMemo (body_of issue_form body)
IsAirlineRequest airline.Uphold body asked = asked ≡ UpholdMemo (body_of document_form body)
IsAirlineRequest airline.Withdraw body asked = asked ≡ WithdrawMemo (body_of document_form body)
IsAirlineRequest airline.Reduce body asked = asked ≡ ReduceMemo (body_of reduction_form body)
IsAirlineRequest (airline.Hot period) body asked = asked ≡ AskHot period

-- what a method and a target ask for, with the bytes of the body, is this
abbrev pub IsAsked : Asking (List ℕ) → List ℕ → Asked → Type 0
IsAsked asking.NoRoute body asked = asked ≡ NoRoute
IsAsked (asking.OtherMethod methods) body asked = asked ≡ OtherMethod
IsAsked (asking.Call (call.Office of_office)) body asked = (request : OfficeRequest) × IsOfficeRequest of_office body request × (asked ≡ ByOffice request)
IsAsked (asking.Call (call.Agent code of_agent)) body asked = (request : AgentRequest) × IsAgentRequest of_agent body request × (asked ≡ ByAgent code request)
IsAsked (asking.Call (call.Airline code of_airline)) body asked = (request : AirlineRequest) × IsAirlineRequest of_airline body request × (asked ≡ ByAirline code request)
