-- What a connection that is fed has done: all that came, was asked and was sent.
use Rattle.std.specs.Prelude.{◌≡◌, ◌⊎◌, ℕ, ◌+◌, ◌-◌, ◌<◌, ◌≤◌, Bool, true, false, List, [], ◌++◌, length, take, drop, Some, None, is_some}
use Rattle.bsp_routes.specs.Scan.{HasScanned}
use Rattle.bsp_connection.specs.Exchanges.{Exchange, Meaning, Reading}
use Rattle.bsp_connection.specs.Conversations.{IsBegun, IsRun}
use Rattle.bsp_connection.specs.Begun.{HasBody, HasUnread, asked_early, pending}
use Rattle.bsp_connection.specs.Messages.{AreTaken, Item, asked, left, texts}
use Rattle.bsp_connection.specs.declared.connection.Begun.{Begun}
use Rattle.bsp_connection.specs.declared.connection.Connection.{Connection}

module _ {D F B : Type 0} (m : Meaning D) (r : Reading F B) where
  -- messages at the front of these bytes were answered, and what was put out more is the end of their texts
  pub record IsMoved (old new : Connection F B) (d e : D) (unread : List ℕ) : Type 0 where
    pub items : List Item
    pub rest : List ℕ
    pub more : List ℕ
    pub exchanges : List Exchange
    pub run : IsRun m d exchanges e
    pub asked_are : asked_early old.begun old.received.items ++ exchanges ≡ asked items ++ asked_early new.begun new.received.items
    pub taken : AreTaken m (left old.count unread old.closed) items (left new.count rest new.closed)
    pub has : HasUnread r m.uses new rest
    pub out : new.out.bytes ≡ old.out.bytes ++ more
    pub text : pending old.begun ++ more ≡ texts items ++ pending new.begun

  -- whatever bytes it has
  abbrev pub Moves : Connection F B → Connection F B → D → D → Type 0
  Moves old new d e = (unread : List ℕ) → HasUnread r m.uses old unread → IsMoved old new d e unread

  -- all that came is cut into messages, the desk was asked what they ask for, and what was sent and is to be sent is their texts, in order,
  -- and what goes before the body of the message that is begun
  pub record Talks (got : List ℕ) (xs : List Exchange) (sent : List ℕ) (c : Connection F B) : Type 0 where
    pub items : List Item
    pub rest : List ℕ
    pub cut : AreTaken m (left 0 got false) items (left c.count rest c.closed)
    pub asked_are : xs ≡ asked items ++ asked_early c.begun c.received.items
    pub has : HasUnread r m.uses c rest
    pub put : sent ++ c.out.bytes ≡ texts items ++ pending c.begun

  -- all is sent, and the connection is closed, or what came after its messages is the begin of one at the most
  pub record Rests (c : Connection F B) : Type 0 where
    pub sent : c.out.bytes ≡ []
    pub whole : (rest : List ℕ) → HasUnread r m.uses c rest → (c.closed ≡ true) ⊎ ((rest ≡ []) ⊎ IsBegun rest (pending c.begun) (asked_early c.begun c.received.items))

-- ---- what the calls do, apart from answering

-- but for what was received and is to be sent
pub record IsLike {F B : Type 0} (old new : Connection F B) : Type 0 where
  pub scan : new.scan ≡ old.scan
  pub seen : new.seen ≡ old.seen
  pub begun : new.begun ≡ old.begun
  pub body : new.body ≡ old.body
  pub count : new.count ≡ old.count
  pub closed : new.closed ≡ old.closed
  pub number : new.number ≡ old.number

-- nothing came
pub record IsFresh {F B : Type 0} (c : Connection F B) : Type 0 where
  pub none : c.received.items ≡ []
  pub seen : c.seen ≡ 0
  pub scanned : HasScanned [] c.scan
  pub begun : c.begun ≡ None
  pub out : c.out.bytes ≡ []
  pub free : c.out.apart ≡ false
  pub count : c.count ≡ 0
  pub unclosed : c.closed ≡ false
  pub waits : c.has_more ≡ false

-- nothing was done
abbrev pub IsSame : {F B : Type 0} → Connection F B → Connection F B → Type 0
IsSame old new = (new.received.items ≡ old.received.items) × (new.has_more ≡ old.has_more) × IsLike old new × (new.out ≡ old.out)

-- this piece came; after an answer that closes the connection it is dropped
abbrev pub HasTaken : {F B : Type 0} → Connection F B → List ℕ → Connection F B → Type 0
HasTaken old piece new =
    ((old.closed ≡ true) × IsSame old new)
    ⊎ ((new.received.items ≡ old.received.items ++ piece) × (new.has_more ≡ true) × IsLike old new × (new.out ≡ old.out) × (old.closed ≡ false))

-- these bytes were sent
abbrev pub IsSent : {F B : Type 0} → Connection F B → List ℕ → Connection F B → Type 0
IsSent old bytes new = (old.out.bytes ≡ bytes ++ new.out.bytes) × (new.received.items ≡ old.received.items) × (new.has_more ≡ old.has_more) × IsLike old new

-- the message whose head had so many bytes was answered by this text
pub record IsAnswered {F B : Type 0} (head : ℕ) (text : List ℕ) (closes : Bool) (old new : Connection F B) : Type 0 where
  pub received : new.received.items ≡ drop head old.received.items
  pub seen : new.seen ≡ 0
  pub scanned : HasScanned [] new.scan
  pub begun : new.begun ≡ None
  pub out : new.out.bytes ≡ old.out.bytes ++ text
  pub count : new.count ≡ old.count + 1
  pub closed : new.closed ≡ closes
  pub more : new.has_more ≡ false → (closes ≡ true) ⊎ (new.received.items ≡ [])
  pub number : new.number ≡ old.number
  pub room : new.received.room ≡ old.received.room

-- this piece of a body was passed on
pub record HasPassed {F B : Type 0} (r : Reading F B) (b : Begun F) (old new : Connection F B) (now : Begun F) : Type 0 where
  pub piece : List ℕ
  pub rest : List ℕ
  pub behind : drop b.head old.received.items ≡ piece ++ rest
  pub received : new.received.items ≡ take b.head old.received.items ++ rest
  pub within : length piece ≤ b.left
  pub now_is : now ≡ record { head = b.head; parts = b.parts; found = b.found; left = b.left - length piece }
  pub begun : new.begun ≡ Some now
  pub is_used : is_some new.body ≡ is_some old.body
  pub body : (bytes : List ℕ) → HasBody r b.found old.body bytes → HasBody r b.found new.body (bytes ++ piece)
  pub waits : new.has_more ≡ false → (0 < now.left) × (rest ≡ [])
  pub rests : 0 < now.left → new.has_more ≡ false
  pub out : new.out ≡ old.out
  pub count : new.count ≡ old.count
  pub closed : new.closed ≡ old.closed
  pub number : new.number ≡ old.number
  pub room : new.received.room ≡ old.received.room

-- there was no memory for a piece of a body
pub record IsRefused {F B : Type 0} (b : Begun F) (old new : Connection F B) : Type 0 where
  pub used : is_some old.body ≡ true
  pub some : 0 < b.left
  pub received : new.received.items ≡ old.received.items
  pub begun : new.begun ≡ old.begun
  pub out : new.out ≡ old.out
  pub count : new.count ≡ old.count
  pub closed : new.closed ≡ old.closed
  pub number : new.number ≡ old.number
  pub room : new.received.room ≡ old.received.room
