-- The caller that a path names, where the token is its own.
use Rattle.std.specs.Prelude.{ℕ, Bool, true, false, ◌&&◌, List, Option, Some, None, is_some, if◌then◌else◌}
use Rattle.std.specs.Borrow.{Bor}
use Rattle.bsp_messages.specs.Values.{airline_in}
use Rattle.bsp_routes.specs.Calls.{body_of}
use Rattle.bsp_routes.specs.declared.asking.Asking.{Asking}
use Rattle.bsp_routes.specs.declared.asking.Asking.TheVariants as asking
use Rattle.bsp_routes.specs.declared.body.BodyKind.{BodyKind}
use Rattle.bsp_routes.specs.declared.body.BodyKind.TheVariants.{NoBody, Ret, PlanText, Json}
use Rattle.bsp_routes.specs.declared.call.Call.{Call}
use Rattle.bsp_routes.specs.declared.call.Call.TheVariants.{Office, Agent, Airline}
use Rattle.bsp_rows.specs.Rows.{Rows, agent_token, airline_token}
use Rattle.bsp_desk_writes.specs.declared.content.Content.{Content}
use Rattle.bsp_desk_writes.specs.Ledger.{agent_of}
use Rattle.bsp_desk_writes.specs.Step.{is_token}
use Rattle.bsp_desk.specs.declared.request.Request.{Request}

-- a caller of this kind with its token among the rows, and the token given
abbrev pub if_own : (ℕ → Rows → Option (List ℕ)) → Option (List ℕ) → Option ℕ → Rows → Option ℕ
if_own token_of given None rows = None
if_own token_of given (Some caller) rows = if is_token (token_of caller rows) given then Some caller else None

-- the agent of this code, if the token is its own
abbrev pub known_agent : Option (List ℕ) → List ℕ → Rows → Option ℕ
known_agent given code rows = if_own agent_token given (agent_of code) rows

-- the airline of this code, if the token is its own
abbrev pub known_airline : Option (List ℕ) → List ℕ → Rows → Option ℕ
known_airline given code rows = if_own airline_token given (airline_in code) rows

-- the request of a call
abbrev pub calling : Option (Bor (List ℕ)) → Call (Bor (List ℕ)) → Content → Request
calling token call content = record { token = token; call = asking.Call call; content = content }

-- whether the caller of a call is let in, at an office with this token
abbrev pub is_let_in : List ℕ → Option (List ℕ) → Call (List ℕ) → Rows → Bool
is_let_in office given (Office call) rows = is_token (Some office) given
is_let_in office given (Agent code call) rows = is_some (known_agent given code rows)
is_let_in office given (Airline code call) rows = is_some (known_airline given code rows)

abbrev pub has_body : BodyKind → Bool
has_body NoBody = false
has_body Ret = true
has_body PlanText = true
has_body Json = true

-- whether the body of a request is wanted, before it comes: its call has one, and the caller is let in
abbrev pub is_body_wanted : List ℕ → Option (List ℕ) → Asking (List ℕ) → Rows → Bool
is_body_wanted office given (asking.Call call) rows = has_body (body_of call) && is_let_in office given call rows
is_body_wanted office given (asking.OtherMethod methods) rows = false
is_body_wanted office given asking.NoRoute rows = false
