-- How a request that comes in is read as one of `bsp_office_spec`.
use Rattle.std.specs.Prelude.{◌≡◌, ℕ, List, [], ◌∷◌, Option, Some, None}
use Rattle.std.specs.Borrow.{Bor}
use Rattle.bsp_routes.specs.Calls.{asking_text}
use Rattle.bsp_desk_writes.specs.Contents.{IsAskedWith, IsWhole}
use Rattle.bsp_desk_writes.specs.Requests.{Request as Reading}
use Rattle.bsp_desk.specs.declared.request.Request.{Request}

-- the bytes of the token that a request bears, if it bears one
abbrev pub token_text : Option (Bor (List ℕ)) → Option (List ℕ)
token_text None = None
token_text (Some token) = Some token.now

-- a request is read as this: its token, what it asks, and its content
pub record IsRead (request : Request) (reading : Reading) : Type 0 where
  pub token : reading.token ≡ token_text request.token
  pub asked : IsAskedWith (asking_text request.call) request.content reading.asked

-- each request is read so
abbrev pub AreRead : List Request → List Reading → Type 0
AreRead [] [] = Unit {0}
AreRead (request ∷ requests) (reading ∷ readings) = IsRead request reading × AreRead requests readings
AreRead _ _ = ⊥

-- each request whose content is whole is read as some request
abbrev pub EachIsRead : Type 0
EachIsRead = (request : Request) → IsWhole request.content → (reading : Reading) × IsRead request reading

-- and so is each list of them
abbrev pub AreWhole : List Request → Type 0
AreWhole [] = Unit {0}
AreWhole (request ∷ requests) = IsWhole request.content × AreWhole requests

-- each list of requests whose contents are whole is read as some list
abbrev pub ListsAreRead : Type 0
ListsAreRead = (requests : List Request) → AreWhole requests → (readings : List Reading) × AreRead requests readings
