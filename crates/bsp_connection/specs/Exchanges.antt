-- Requests and replies as their bytes, and what of a body is answered.
use Rattle.std.specs.Prelude.{ℕ, Bool, true, false, List, [], ◌∷◌, if◌then◌else◌, Option}
use Rattle.std.specs.Option.{option_map}
use Rattle.bsp_routes.specs.Replies.{ReplyText}
use Rattle.bsp_routes.specs.Responses.{continue_text}
use Rattle.bsp_connection.specs.declared.service.Message.{Message}

-- a request, with what is answered of its body
pub record RequestText : Type 0 where
  pub method : List ℕ
  pub target : List ℕ
  pub token : Option (List ℕ)
  pub body : List ℕ

abbrev pub request_of : Message → List ℕ → RequestText
request_of message body = record { method = message.method.now; target = message.target.now; token = option_map (λ t. t.now) message.token; body = body }

-- what of a body is answered, by whether it is used
abbrev pub used : Bool → List ℕ → List ℕ
used true body = body
used false body = []

-- a request before its body comes
abbrev pub head_of : RequestText → RequestText
head_of request = record { method = request.method; target = request.target; token = request.token; body = [] }

-- what a desk is asked for a message, and what it answers
pub data Exchange : Type 0 where
  -- before the body of a request comes: whether it is wanted
  wants : (head : RequestText) → (wanted : Bool) → Exchange
  -- a request: its reply
  replies : (request : RequestText) → (reply : ReplyText) → Exchange

-- what a service answers at desks of a type
pub record Meaning (D : Type 0) : Type 1 where
  -- whether the body of a request is used, by its method and its target
  pub uses : List ℕ → List ℕ → Bool → Type 0
  -- the reply where there was no memory for a body
  pub no_room : ReplyText
  -- `admits old head wanted new`: at the desk the body of a request may be wanted or not, before it comes, and leave the desk so
  pub admits : D → RequestText → Bool → D → Type 0
  -- `steps old request reply new`: at the desk the request may have that reply, and leave the desk so
  pub steps : D → RequestText → ReplyText → D → Type 0

-- an exchange is a step of the desk
abbrev pub does : {D : Type 0} → Meaning D → D → Exchange → D → Type 0
does m old (wants head wanted) new = m.admits old head wanted new
does m old (replies request reply) new = m.steps old request reply new

-- what the desk was asked where the sender of a body waits, and the body is wanted
abbrev pub inquiry : Bool → RequestText → List Exchange
inquiry expects head = if expects then wants head true ∷ [] else []

-- how a service reads a request
pub record Reading (F B : Type 0) : Type 1 where
  -- what a method and a target ask for
  pub finds : List ℕ → List ℕ → F → Type 0
  -- what takes the body of a request that asks for this has these bytes of it
  pub has : F → B → List ℕ → Type 0

-- what is written before a body is read
abbrev pub interim : Bool → List ℕ
interim expects = if expects then continue_text else []
