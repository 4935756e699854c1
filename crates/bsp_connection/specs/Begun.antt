-- What a connection has of what came and is in no message yet.
use Rattle.std.specs.Prelude.{◌≡◌, ◌≢◌, ℕ, ◌+◌, ◌<◌, ◌≤◌, Bool, false, List, [], ◌++◌, length, take, drop, Option, Some, None, IfSome, is_some}
use Rattle.std.specs.Option.{option_map}
use Rattle.httparse.specs.Spans.{IsWithin, span_bytes}
use Rattle.bsp_routes.specs.Head.{AreParts, head_limit}
use Rattle.bsp_routes.specs.Scan.{HasScanned, head_len}
use Rattle.bsp_routes.specs.declared.parts.HeadParts.{HeadParts}
use Rattle.bsp_routes.specs.declared.scan.Scan.{Scan}
use Rattle.bsp_connection.specs.Exchanges.{Exchange, Reading, RequestText, inquiry, interim}
use Rattle.bsp_connection.specs.Conversations.{message_limit}
use Rattle.bsp_connection.specs.declared.connection.Begun.{Begun}
use Rattle.bsp_connection.specs.declared.connection.Connection.{Connection}

-- a head was received, and its parts are these
pub record IsRead (received : List ℕ) (len : ℕ) (parts : HeadParts) : Type 0 where
  pub within : len ≤ length received
  pub short : len ≤ head_limit
  pub ends : head_len (take len received) ≡ Some len
  pub parts_are : AreParts (take len received) parts
  pub method : IsWithin len parts.method
  pub target : IsWithin len parts.target
  pub token : IfSome parts.token (IsWithin len)

-- no head was found: in so many bytes none ends
pub record IsSought (received : List ℕ) (scan : Scan) (seen : ℕ) (has_more : Bool) (unread : List ℕ) : Type 0 where
  pub is : unread ≡ received
  pub within : seen ≤ length received
  pub scanned : HasScanned (take seen received) scan
  pub waits : has_more ≡ false → (head_len received ≡ None) × (length received < head_limit)

module _ {F B : Type 0} (r : Reading F B) where
  -- what takes a body has these bytes of it; where nothing does they are dropped
  abbrev pub HasBody : F → Option B → List ℕ → Type 0
  HasBody found None bytes = Unit {0}
  HasBody found (Some body) bytes = r.has found body bytes

  -- the head of a message was received, and what was found for it
  pub record IsHeaded (received : List ℕ) (b : Begun F) : Type 0 where
    pub read : IsRead received b.head b.parts
    pub finds : r.finds (span_bytes (take b.head received) b.parts.method) (span_bytes (take b.head received) b.parts.target) b.found

module _ {F B : Type 0} (r : Reading F B) (uses : List ℕ → List ℕ → Bool → Type 0) where
  -- a message is begun: its head is received, and what takes its body has so much of it
  pub record IsBegunAs (b : Begun F) (received : List ℕ) (body : Option B) (has_more : Bool) (unread : List ℕ) : Type 0 where
    pub headed : IsHeaded r received b
    pub is_used : uses (span_bytes (take b.head received) b.parts.method) (span_bytes (take b.head received) b.parts.target) (is_some body)
    pub came : List ℕ
    pub is : unread ≡ take b.head received ++ (came ++ drop b.head received)
    pub sized : length came + b.left ≡ b.parts.wanted.body
    pub has : HasBody r b.found body came
    pub waits : has_more ≡ false → (0 < b.left) × (length received ≡ b.head)

  abbrev pub HasBegun : Option (Begun F) → List ℕ → Scan → ℕ → Option B → Bool → List ℕ → Type 0
  HasBegun None received scan seen body has_more unread = IsSought received scan seen has_more unread
  HasBegun (Some b) received scan seen body has_more unread = IsBegunAs b received body has_more unread

  -- these bytes came and are in no message, where the connection is open
  abbrev pub HasUnread : Connection F B → List ℕ → Type 0
  HasUnread c unread = c.closed ≡ false → (c.count < message_limit) × HasBegun c.begun c.received.items c.scan c.seen c.body c.has_more unread

-- what was put out for a message that is begun
abbrev pub pending : {F : Type 0} → Option (Begun F) → List ℕ
pending None = []
pending (Some b) = interim b.parts.wanted.expects

-- a request as the parts of its head have it
abbrev pub request_in : List ℕ → HeadParts → List ℕ → RequestText
request_in head parts body = record { method = span_bytes head parts.method; target = span_bytes head parts.target; token = option_map (span_bytes head) parts.token; body = body }

-- a head as its parts have it
abbrev pub head_in : List ℕ → HeadParts → RequestText
head_in head parts = request_in head parts []

-- what the desk was asked for a message that is begun
abbrev pub asked_early : {F : Type 0} → Option (Begun F) → List ℕ → List Exchange
asked_early None received = []
asked_early (Some b) received = inquiry b.parts.wanted.expects (head_in (take b.head received) b.parts)

-- the message that is begun and not whole, by how many were answered before it
abbrev pub BegunAt : {F B : Type 0} → Connection F B → Option ℕ → Type 0
BegunAt c None = (c.begun ≡ None) × (c.received.items ≡ [])
BegunAt c (Some count) = (count ≡ c.count) × (c.begun ≡ None → c.received.items ≢ [])
