-- The resources: each has a pattern of its own, and the methods of the calls at its paths.
use Rattle.std.specs.Prelude.{◌≡◌, ℕ, List, [], ◌++◌, codes, Bool, true, false}
use Rattle.bsp_routes.specs.declared.call.OfficeCall.TheVariants as office
use Rattle.bsp_routes.specs.declared.call.AgentCall.TheVariants as agent
use Rattle.bsp_routes.specs.declared.call.AirlineCall.TheVariants as airline
use Rattle.bsp_routes.specs.declared.call.Call.{Call}
use Rattle.bsp_routes.specs.declared.call.Call.TheVariants as call
use Rattle.bsp_routes.specs.declared.resource.Resource.{Resource}
use Rattle.bsp_routes.specs.declared.resource.Resource.TheVariants.{Plan, Day, Agents, Airlines, Allot, Withdraw, OfficeRet, Close, Settlement, AgentRet, Document, Period, Stock, AgentMemos, Dispute, Agree, Statement, AirlineMemos, Uphold, WithdrawMemo, Reduce, Hot}
use Rattle.bsp_routes.specs.declared.methods.Methods.{Methods}
use Rattle.bsp_routes.specs.declared.methods.Methods.TheVariants.{Get, Post, GetAndPost}
use Rattle.bsp_routes.specs.Targets.{IsClean, IsValue}

-- a path's form: a text alone, or texts with one or two values between and after them
pub data Form : Type 0 where
  Fixed : List ℕ → Form
  After : List ℕ → Form
  Between : List ℕ → List ℕ → Form
  Two : List ℕ → List ℕ → Form

abbrev pub form : Resource → Form
form Plan = Fixed (codes "/office/plan")
form Day = Fixed (codes "/office/day")
form Agents = Fixed (codes "/office/agents")
form Airlines = Fixed (codes "/office/airlines")
form Allot = Fixed (codes "/office/stock/allot")
form Withdraw = Fixed (codes "/office/stock/withdraw")
form OfficeRet = Fixed (codes "/office/ret")
form Close = Fixed (codes "/office/close")
form Settlement = After (codes "/office/settlement/")
form AgentRet = Between (codes "/agents/") (codes "/ret")
form Document = Two (codes "/agents/") (codes "/documents/")
form Period = Two (codes "/agents/") (codes "/periods/")
form Stock = Between (codes "/agents/") (codes "/stock")
form AgentMemos = Between (codes "/agents/") (codes "/memos")
form Dispute = Between (codes "/agents/") (codes "/memos/dispute")
form Agree = Between (codes "/agents/") (codes "/memos/agree")
form Statement = Two (codes "/agents/") (codes "/statements/")
form AirlineMemos = Between (codes "/airlines/") (codes "/memos")
form Uphold = Between (codes "/airlines/") (codes "/memos/uphold")
form WithdrawMemo = Between (codes "/airlines/") (codes "/memos/withdraw")
form Reduce = Between (codes "/airlines/") (codes "/memos/reduce")
form Hot = Two (codes "/airlines/") (codes "/hot/")

-- the path has that form, with these values; a value that the form lacks is empty
abbrev pub Fits : Form → List ℕ → List ℕ → List ℕ → Type 0
Fits (Fixed w) a b path = (path ≡ w) × (a ≡ []) × (b ≡ [])
Fits (After w) a b path = (path ≡ w ++ a) × IsValue a × (b ≡ [])
Fits (Between w z) a b path = (path ≡ w ++ (a ++ z)) × IsValue a × (b ≡ [])
Fits (Two w z) a b path = (path ≡ w ++ (a ++ (z ++ b))) × IsValue a × IsValue b

-- the target is a path of that resource, with these values
abbrev pub IsPathOf : Resource → List ℕ → List ℕ → List ℕ → Type 0
IsPathOf resource a b target = IsClean target × Fits (form resource) a b target

-- the methods of the calls at a resource's paths
abbrev pub methods : Resource → Methods
methods Settlement = Get
methods Document = Get
methods Period = Get
methods Stock = Get
methods AgentMemos = Get
methods Statement = Get
methods Hot = Get
methods AirlineMemos = GetAndPost
methods resource = Post

module _ {V : Type 0} where
  -- the call at a resource's path with these values, a POST or not
  abbrev pub call_at : Resource → V → V → Bool → Call V
  call_at Plan a b posts = call.Office office.Plan
  call_at Day a b posts = call.Office office.Day
  call_at Agents a b posts = call.Office office.RegisterAgent
  call_at Airlines a b posts = call.Office office.RegisterAirline
  call_at Allot a b posts = call.Office office.Allot
  call_at Withdraw a b posts = call.Office office.Withdraw
  call_at OfficeRet a b posts = call.Office office.Ret
  call_at Close a b posts = call.Office office.Close
  call_at Settlement a b posts = call.Office (office.Settlement a)
  call_at AgentRet a b posts = call.Agent a agent.Ret
  call_at Document a b posts = call.Agent a (agent.Document b)
  call_at Period a b posts = call.Agent a (agent.Period b)
  call_at Stock a b posts = call.Agent a agent.Stock
  call_at AgentMemos a b posts = call.Agent a agent.Memos
  call_at Dispute a b posts = call.Agent a agent.Dispute
  call_at Agree a b posts = call.Agent a agent.Agree
  call_at Statement a b posts = call.Agent a (agent.Statement b)
  call_at AirlineMemos a b true = call.Airline a airline.Issue
  call_at AirlineMemos a b false = call.Airline a airline.Memos
  call_at Uphold a b posts = call.Airline a airline.Uphold
  call_at WithdrawMemo a b posts = call.Airline a airline.Withdraw
  call_at Reduce a b posts = call.Airline a airline.Reduce
  call_at Hot a b posts = call.Airline a (airline.Hot b)
