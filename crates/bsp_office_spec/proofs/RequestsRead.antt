-- Each call with the bytes of its body has a reading.
use Rattle.std.proofs.Common.{◌≡◌, ◌⊎◌, inl, inr, ℕ, ◌<◌, ◌^◌, List, length, Result, Ok, Err, refl, sym, ap, ◌∙◌, arith}
use Rattle.std.specs.Global.{Vec}
use Rattle.std.specs.Ptr.{null_ptr}
use Rattle.std.proofs.lemmas.Bool.{cases_lt}
use Rattle.bsp_calendar.specs.PlanDocument.{PlanData, plan_reading}
use Rattle.bsp_rows.specs.PlanFault.{PlanFault}
use Rattle.bsp_rows.specs.PlanFault.TheVariants.{NoMemory}
use Rattle.bsp_messages.specs.Bodies.{agent_registration_form, airline_registration_form, body_of, day_form, document_form, issue_form, named_memo_form, period_form, reduction_form, stock_change_form}
use Rattle.bsp_routes.specs.declared.asking.Asking.TheVariants as asking
use Rattle.bsp_routes.specs.declared.call.AgentCall.{AgentCall}
use Rattle.bsp_routes.specs.declared.call.AgentCall.TheVariants as agent
use Rattle.bsp_routes.specs.declared.call.AirlineCall.{AirlineCall}
use Rattle.bsp_routes.specs.declared.call.AirlineCall.TheVariants as airline
use Rattle.bsp_routes.specs.declared.call.Call.TheVariants as call
use Rattle.bsp_routes.specs.declared.call.OfficeCall.{OfficeCall}
use Rattle.bsp_routes.specs.declared.call.OfficeCall.TheVariants as office
use Rattle.bsp_office_spec.specs.Laws.{EachRequestIsRead}
use Rattle.bsp_office_spec.specs.Requests.{AgentRequest, AirlineRequest, IsAgentRequest, IsAirlineRequest, IsInMemory, IsOfficeRequest, IsPlanOf, OfficeRequest, PlanRead}
use Rattle.bsp_office_spec.specs.Requests.AgentRequest.{AgentFile, AgreeMemo, AskDocument, AskMemos, AskPeriod, AskStatement, AskStock, DisputeMemo}
use Rattle.bsp_office_spec.specs.Requests.AirlineRequest.{AskHot, AskIssuedMemos, IssueMemo, ReduceMemo, UpholdMemo, WithdrawMemo}
use Rattle.bsp_office_spec.specs.Requests.Asked.{ByAgent, ByAirline, ByOffice, NoRoute, OtherMethod}
use Rattle.bsp_office_spec.specs.Requests.OfficeRequest.{AllotRange, AskSettlement, ClosePeriod, OfficeFile, PublishPlan, RegisterAgent, RegisterAirline, SetBusinessDay, WithdrawRange}
use Rattle.bsp_office_spec.proofs.EachIsRead.{each_file_is_read}

-- a list that memory can hold
vec_of : {A : Type 0} (xs : List A) → length xs < 2 ^ 63 → (v : Vec A) × (v.items ≡ xs)
vec_of xs small = (
  record { ptr = null_ptr; len = length xs; cap = length xs; alloc = record { memory = record { seal = tt } }; items = xs; ok = (refl, omega arith); small = small },
  refl,
)

in_memory_or_not : (said : PlanData) → IsInMemory said ⊎ (IsInMemory said → ⊥)
in_memory_or_not said = elim (cases_lt (length said.airlines) (2 ^ 63)) [
  | inr big ↦ inr (λ is. absurd (let small = is.0 in omega (arith, big, small)))
  | inl airlines ↦ elim (cases_lt (length said.rates) (2 ^ 63)) [
    | inr big ↦ inr (λ is. absurd (let small = is.1 in omega (arith, big, small)))
    | inl rates ↦ elim (cases_lt (length said.periods) (2 ^ 63)) [
      | inr big ↦ inr (λ is. absurd (let small = is.2 in omega (arith, big, small)))
      | inl periods ↦ elim (cases_lt (length said.commission_taxes) (2 ^ 63)) [
        | inr big ↦ inr (λ is. absurd (let small = is.3 in omega (arith, big, small)))
        | inl taxes ↦ inl (airlines, rates, periods, taxes)
      ]
    ]
  ]
]

plan_read : (body : List ℕ) → (text : PlanRead) × IsPlanOf body text
plan_read body = by (plan_reading body) refl where
  held : (said : PlanData) → plan_reading body ≡ Ok said → IsInMemory said → (text : PlanRead) × IsPlanOf body text
  held said is room =
      let airlines = vec_of said.airlines room.0 in
      let rates = vec_of said.rates room.1 in
      let periods = vec_of said.periods room.2 in
      let taxes = vec_of said.commission_taxes room.3 in
      let same : record { terms = said.terms; airlines = airlines.0.items; rates = rates.0.items; periods = periods.0.items; commission_taxes = taxes.0.items } ≡ said =
      (λ i. record { terms = said.terms; airlines = airlines.1 i; rates = rates.1 i; periods = periods.1 i; commission_taxes = taxes.1 i }) in
      (Ok (record { terms = said.terms; airlines = airlines.0; rates = rates.0; periods = periods.0; commission_taxes = taxes.0 }), inl (ap (λ (d : PlanData). Ok d) same ∙ sym is))

  by : (read : Result PlanData PlanFault) → plan_reading body ≡ read → (text : PlanRead) × IsPlanOf body text
  by (Err fault) is = (Err fault, inl (sym is))
  by (Ok said) is = elim (in_memory_or_not said) [
    | inl room ↦ held said is room
    | inr beyond ↦ (Err NoMemory, inr ((said, is, beyond), refl))
  ]

office_read : (of_office : OfficeCall (List ℕ)) (body : List ℕ) → (request : OfficeRequest) × IsOfficeRequest of_office body request
office_read office.Plan body = let text = plan_read body in (PublishPlan text.0, (text.0, text.1, refl))
office_read office.Day body = (SetBusinessDay (body_of day_form body), refl)
office_read office.RegisterAgent body = (RegisterAgent (body_of agent_registration_form body), refl)
office_read office.RegisterAirline body = (RegisterAirline (body_of airline_registration_form body), refl)
office_read office.Allot body = (AllotRange (body_of stock_change_form body), refl)
office_read office.Withdraw body = (WithdrawRange (body_of stock_change_form body), refl)
office_read office.Ret body = let file = each_file_is_read body in (OfficeFile file.0, (file.0, file.1, refl))
office_read office.Close body = (ClosePeriod (body_of period_form body), refl)
office_read (office.Settlement period) body = (AskSettlement period, refl)

agent_read : (of_agent : AgentCall (List ℕ)) (body : List ℕ) → (request : AgentRequest) × IsAgentRequest of_agent body request
agent_read agent.Ret body = let file = each_file_is_read body in (AgentFile file.0, (file.0, file.1, refl))
agent_read (agent.Document number) body = (AskDocument number, refl)
agent_read (agent.Period period) body = (AskPeriod period, refl)
agent_read agent.Stock body = (AskStock, refl)
agent_read agent.Memos body = (AskMemos, refl)
agent_read agent.Dispute body = (DisputeMemo (body_of named_memo_form body), refl)
agent_read agent.Agree body = (AgreeMemo (body_of named_memo_form body), refl)
agent_read (agent.Statement period) body = (AskStatement period, refl)

airline_read : (of_airline : AirlineCall (List ℕ)) (body : List ℕ) → (request : AirlineRequest) × IsAirlineRequest of_airline body request
airline_read airline.Memos body = (AskIssuedMemos, refl)
airline_read airline.Issue body = (IssueMemo (body_of issue_form body), refl)
airline_read airline.Uphold body = (UpholdMemo (body_of document_form body), refl)
airline_read airline.Withdraw body = (WithdrawMemo (body_of document_form body), refl)
airline_read airline.Reduce body = (ReduceMemo (body_of reduction_form body), refl)
airline_read (airline.Hot period) body = (AskHot period, refl)

pub each_request_is_read : EachRequestIsRead
each_request_is_read asking.NoRoute body = (NoRoute, refl)
each_request_is_read (asking.OtherMethod methods) body = (OtherMethod, refl)
each_request_is_read (asking.Call (call.Office of_office)) body = let read = office_read of_office body in (ByOffice read.0, (read.0, read.1, refl))
each_request_is_read (asking.Call (call.Agent code of_agent)) body = let read = agent_read of_agent body in (ByAgent code read.0, (read.0, read.1, refl))
each_request_is_read (asking.Call (call.Airline code of_airline)) body = let read = airline_read of_airline body in (ByAirline code read.0, (read.0, read.1, refl))
