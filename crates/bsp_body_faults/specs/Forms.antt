-- Which form the body of each call has, and which bytes are a JSON body of each form.
use Rattle.std.specs.Prelude.{ℕ, List, Bool, is_some}
use Rattle.bsp_routes.specs.declared.call.OfficeCall.{OfficeCall}
use Rattle.bsp_routes.specs.declared.call.OfficeCall.TheVariants as office
use Rattle.bsp_routes.specs.declared.call.AgentCall.{AgentCall}
use Rattle.bsp_routes.specs.declared.call.AgentCall.TheVariants as agent
use Rattle.bsp_routes.specs.declared.call.AirlineCall.{AirlineCall}
use Rattle.bsp_routes.specs.declared.call.AirlineCall.TheVariants as airline
use Rattle.bsp_routes.specs.declared.call.Call.{Call}
use Rattle.bsp_routes.specs.declared.call.Call.TheVariants as call
use Rattle.bsp_messages.specs.Bodies.{agent_registration_form, airline_registration_form, body_of, day_form, document_form, issue_form, named_memo_form, period_form, reduction_form, stock_change_form}
use Rattle.bsp_body_faults.specs.declared.form.JsonForm.{JsonForm}
use Rattle.bsp_body_faults.specs.declared.form.JsonForm.TheVariants as json
use Rattle.bsp_body_faults.specs.declared.form.BodyForm.{BodyForm}
use Rattle.bsp_body_faults.specs.declared.form.BodyForm.TheVariants as form

-- whether the bytes are a JSON body of the form
abbrev pub is_json_body : JsonForm → List ℕ → Bool
is_json_body json.Day body = is_some (body_of day_form body)
is_json_body json.AgentRegistration body = is_some (body_of agent_registration_form body)
is_json_body json.AirlineRegistration body = is_some (body_of airline_registration_form body)
is_json_body json.StockChange body = is_some (body_of stock_change_form body)
is_json_body json.Period body = is_some (body_of period_form body)
is_json_body json.NamedMemo body = is_some (body_of named_memo_form body)
is_json_body json.Document body = is_some (body_of document_form body)
is_json_body json.Reduction body = is_some (body_of reduction_form body)
is_json_body json.Issue body = is_some (body_of issue_form body)

module _ {V : Type 0} where
  abbrev pub office_form : OfficeCall V → BodyForm
  office_form office.Plan = form.PlanText
  office_form office.Day = form.Json json.Day
  office_form office.RegisterAgent = form.Json json.AgentRegistration
  office_form office.RegisterAirline = form.Json json.AirlineRegistration
  office_form office.Allot = form.Json json.StockChange
  office_form office.Withdraw = form.Json json.StockChange
  office_form office.Ret = form.Ret
  office_form office.Close = form.Json json.Period
  office_form (office.Settlement period) = form.NoBody

  abbrev pub agent_form : AgentCall V → BodyForm
  agent_form agent.Ret = form.Ret
  agent_form agent.Dispute = form.Json json.NamedMemo
  agent_form agent.Agree = form.Json json.NamedMemo
  agent_form call = form.NoBody

  abbrev pub airline_form : AirlineCall V → BodyForm
  airline_form airline.Issue = form.Json json.Issue
  airline_form airline.Uphold = form.Json json.Document
  airline_form airline.Withdraw = form.Json json.Document
  airline_form airline.Reduce = form.Json json.Reduction
  airline_form call = form.NoBody

  -- the form of the body of a call
  abbrev pub form_of : Call V → BodyForm
  form_of (call.Office of_office) = office_form of_office
  form_of (call.Agent code of_agent) = agent_form of_agent
  form_of (call.Airline code of_airline) = airline_form of_airline
