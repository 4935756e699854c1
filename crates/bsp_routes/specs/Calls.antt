-- The calls: their paths, their methods, their bodies, and what a method and a target ask for.
use Rattle.std.specs.Prelude.{◌≡◌, ◌↔◌, ℕ, List, [], ◌∷◌, ◌++◌, codes, All, Bool, true, false, bytes_eq, ◌||◌}
use Rattle.std.specs.Borrow.{Bor}
use Rattle.bsp_routes.specs.declared.call.OfficeCall.{OfficeCall}
use Rattle.bsp_routes.specs.declared.call.OfficeCall.TheVariants as office
use Rattle.bsp_routes.specs.declared.call.AgentCall.{AgentCall}
use Rattle.bsp_routes.specs.declared.call.AgentCall.TheVariants as agent
use Rattle.bsp_routes.specs.declared.call.AirlineCall.{AirlineCall}
use Rattle.bsp_routes.specs.declared.call.AirlineCall.TheVariants as airline
use Rattle.bsp_routes.specs.declared.call.Call.{Call}
use Rattle.bsp_routes.specs.declared.call.Call.TheVariants.{Office, Agent, Airline}
use Rattle.bsp_routes.specs.declared.asking.Asking.{Asking}
use Rattle.bsp_routes.specs.declared.asking.Asking.TheVariants as asking
use Rattle.bsp_routes.specs.declared.body.BodyKind.{BodyKind}
use Rattle.bsp_routes.specs.declared.body.BodyKind.TheVariants as body
use Rattle.bsp_routes.specs.declared.methods.Methods.{Methods}
use Rattle.bsp_routes.specs.declared.methods.Methods.TheVariants.{Get, Post, GetAndPost}
use Rattle.bsp_routes.specs.Targets.{IsClean, IsValue}

-- a call with the bytes of its path values
abbrev pub CallText : Type 0
CallText = Call (List ℕ)

module _ {V W : Type 0} (f : V → W) where
  abbrev pub map_office : OfficeCall V → OfficeCall W
  map_office office.Plan = office.Plan
  map_office office.Day = office.Day
  map_office office.RegisterAgent = office.RegisterAgent
  map_office office.RegisterAirline = office.RegisterAirline
  map_office office.Allot = office.Allot
  map_office office.Withdraw = office.Withdraw
  map_office office.Ret = office.Ret
  map_office office.Close = office.Close
  map_office (office.Settlement period) = office.Settlement (f period)

  abbrev pub map_agent : AgentCall V → AgentCall W
  map_agent agent.Ret = agent.Ret
  map_agent (agent.Document number) = agent.Document (f number)
  map_agent (agent.Period period) = agent.Period (f period)
  map_agent agent.Stock = agent.Stock
  map_agent agent.Memos = agent.Memos
  map_agent agent.Dispute = agent.Dispute
  map_agent agent.Agree = agent.Agree
  map_agent (agent.Statement period) = agent.Statement (f period)

  abbrev pub map_airline : AirlineCall V → AirlineCall W
  map_airline airline.Memos = airline.Memos
  map_airline airline.Issue = airline.Issue
  map_airline airline.Uphold = airline.Uphold
  map_airline airline.Withdraw = airline.Withdraw
  map_airline airline.Reduce = airline.Reduce
  map_airline (airline.Hot period) = airline.Hot (f period)

  -- the call with other path values
  abbrev pub map_call : Call V → Call W
  map_call (Office call) = Office (map_office call)
  map_call (Agent code call) = Agent (f code) (map_agent call)
  map_call (Airline code call) = Airline (f code) (map_airline call)

  abbrev pub map_asking : Asking V → Asking W
  map_asking (asking.Call call) = asking.Call (map_call call)
  map_asking (asking.OtherMethod methods) = asking.OtherMethod methods
  map_asking asking.NoRoute = asking.NoRoute

-- what is asked for, with the bytes that its path values point to
abbrev pub asking_text : Asking (Bor (List ℕ)) → Asking (List ℕ)
asking_text = map_asking (λ value. value.now)

abbrev pub office_path : OfficeCall (List ℕ) → List ℕ
office_path office.Plan = codes "/office/plan"
office_path office.Day = codes "/office/day"
office_path office.RegisterAgent = codes "/office/agents"
office_path office.RegisterAirline = codes "/office/airlines"
office_path office.Allot = codes "/office/stock/allot"
office_path office.Withdraw = codes "/office/stock/withdraw"
office_path office.Ret = codes "/office/ret"
office_path office.Close = codes "/office/close"
office_path (office.Settlement period) = codes "/office/settlement/" ++ period

-- the path of an agent's call behind its code
abbrev pub agent_path : AgentCall (List ℕ) → List ℕ
agent_path agent.Ret = codes "/ret"
agent_path (agent.Document number) = codes "/documents/" ++ number
agent_path (agent.Period period) = codes "/periods/" ++ period
agent_path agent.Stock = codes "/stock"
agent_path agent.Memos = codes "/memos"
agent_path agent.Dispute = codes "/memos/dispute"
agent_path agent.Agree = codes "/memos/agree"
agent_path (agent.Statement period) = codes "/statements/" ++ period

-- the path of an airline's call behind its code
abbrev pub airline_path : AirlineCall (List ℕ) → List ℕ
airline_path airline.Memos = codes "/memos"
airline_path airline.Issue = codes "/memos"
airline_path airline.Uphold = codes "/memos/uphold"
airline_path airline.Withdraw = codes "/memos/withdraw"
airline_path airline.Reduce = codes "/memos/reduce"
airline_path (airline.Hot period) = codes "/hot/" ++ period

-- the path of a call
abbrev pub path_of : CallText → List ℕ
path_of (Office call) = office_path call
path_of (Agent code call) = codes "/agents/" ++ (code ++ agent_path call)
path_of (Airline code call) = codes "/airlines/" ++ (code ++ airline_path call)

module _ {V : Type 0} where
  abbrev pub office_values : OfficeCall V → List V
  office_values (office.Settlement period) = period ∷ []
  office_values call = []

  abbrev pub agent_values : AgentCall V → List V
  agent_values (agent.Document number) = number ∷ []
  agent_values (agent.Period period) = period ∷ []
  agent_values (agent.Statement period) = period ∷ []
  agent_values call = []

  abbrev pub airline_values : AirlineCall V → List V
  airline_values (airline.Hot period) = period ∷ []
  airline_values call = []

  -- the path values of a call, in the order of its path
  abbrev pub values_of : Call V → List V
  values_of (Office call) = office_values call
  values_of (Agent code call) = code ∷ agent_values call
  values_of (Airline code call) = code ∷ airline_values call

  -- the body of a call
  abbrev pub body_of : Call V → BodyKind
  body_of (Office office.Plan) = body.PlanText
  body_of (Office office.Ret) = body.Ret
  body_of (Office (office.Settlement period)) = body.NoBody
  body_of (Office call) = body.Json
  body_of (Agent code agent.Ret) = body.Ret
  body_of (Agent code agent.Dispute) = body.Json
  body_of (Agent code agent.Agree) = body.Json
  body_of (Agent code call) = body.NoBody
  body_of (Airline code airline.Memos) = body.NoBody
  body_of (Airline code (airline.Hot period)) = body.NoBody
  body_of (Airline code call) = body.Json

abbrev pub get : List ℕ
get = codes "GET"

abbrev pub post : List ℕ
post = codes "POST"

-- a call without a body is a GET, one with a body a POST
abbrev pub method_with : BodyKind → List ℕ
method_with body.NoBody = get
method_with kind = post

module _ {V : Type 0} where
  -- the method of a call
  abbrev pub method_of : Call V → List ℕ
  method_of (Office (office.Settlement period)) = get
  method_of (Office call) = post
  method_of (Agent code (agent.Document number)) = get
  method_of (Agent code (agent.Period period)) = get
  method_of (Agent code agent.Stock) = get
  method_of (Agent code agent.Memos) = get
  method_of (Agent code (agent.Statement period)) = get
  method_of (Agent code call) = post
  method_of (Airline code airline.Memos) = get
  method_of (Airline code (airline.Hot period)) = get
  method_of (Airline code call) = post

-- the target is the path of that call
abbrev pub IsCallAt : List ℕ → CallText → Type 0
IsCallAt target call = IsClean target × (target ≡ path_of call) × All IsValue (values_of call)

-- a call at the target has the method
abbrev pub HasCall : List ℕ → List ℕ → Type 0
HasCall target method = (call : CallText) × IsCallAt target call × (method_of call ≡ method)

-- whether the method is listed
abbrev pub lists : Methods → List ℕ → Bool
lists Get method = bytes_eq method get
lists Post method = bytes_eq method post
lists GetAndPost method = bytes_eq method get || bytes_eq method post

-- the value of `Allow`
abbrev pub allow_text : Methods → List ℕ
allow_text Get = codes "GET"
allow_text Post = codes "POST"
allow_text GetAndPost = codes "GET, POST"

-- the methods listed are exactly those of the calls at the target
abbrev pub AreMethodsAt : List ℕ → Methods → Type 0
AreMethodsAt target methods = (method : List ℕ) → (lists methods method ≡ true) ↔ HasCall target method

-- what a method and a target ask for
abbrev pub Asks : List ℕ → List ℕ → Asking (List ℕ) → Type 0
Asks method target (asking.Call call) = IsCallAt target call × (method_of call ≡ method)
Asks method target (asking.OtherMethod methods) = AreMethodsAt target methods × (lists methods method ≡ false)
Asks method target asking.NoRoute = (call : CallText) → IsCallAt target call → ⊥
