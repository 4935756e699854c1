-- The calls with the bytes that their path values point to.
use Rattle.std.specs.Prelude.{ℕ, List}
use Rattle.std.specs.Borrow.{Bor}
use Rattle.bsp_routes.specs.Calls.{map_agent, map_airline, map_office}
use Rattle.bsp_routes.specs.declared.call.AgentCall.{AgentCall}
use Rattle.bsp_routes.specs.declared.call.AirlineCall.{AirlineCall}
use Rattle.bsp_routes.specs.declared.call.OfficeCall.{OfficeCall}

-- the texts in a call of the office: the path segments and query values, as they are now
abbrev pub office_text : OfficeCall (Bor (List ℕ)) → OfficeCall (List ℕ)
office_text = map_office (λ value. value.now)

-- those in a call of an agent
abbrev pub agent_text : AgentCall (Bor (List ℕ)) → AgentCall (List ℕ)
agent_text = map_agent (λ value. value.now)

-- those in a call of an airline
abbrev pub airline_text : AirlineCall (Bor (List ℕ)) → AirlineCall (List ℕ)
airline_text = map_airline (λ value. value.now)
