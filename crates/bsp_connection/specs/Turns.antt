-- What going on with a connection does.
use Rattle.std.specs.Prelude.{◌≡◌, ◌<◌, ℕ, Bool, true, false, List, None}
use Rattle.bsp_connection.specs.Exchanges.{Meaning, Reading}
use Rattle.bsp_connection.specs.Begun.{HasUnread}
use Rattle.bsp_connection.specs.Progress.{IsOn}
use Rattle.bsp_connection.specs.Talks.{IsAnswered, Moves}
use Rattle.bsp_connection.specs.declared.connection.Connection.{Connection}

module _ {D F B : Type 0} (m : Meaning D) (r : Reading F B) where
  -- it may go on
  pub record IsReady (c : Connection F B) : Type 0 where
    pub unclosed : c.closed ≡ false
    pub free : c.out.apart ≡ false
    pub few : c.count < 65536
    pub has : (unread : List ℕ) × HasUnread r m.uses c unread

  -- it went on
  pub record WentOn (old new : Connection F B) (d e : D) : Type 0 where
    pub moves : Moves m r old new d e
    pub goes_on : IsOn old new
    pub shut : new.closed ≡ true → new.begun ≡ None
    pub number : new.number ≡ old.number
    pub room : new.received.room ≡ old.received.room

  -- a message was answered: what was put out is its response, from a connection like the old one
  pub record HasEnded (old new : Connection F B) (d e : D) : Type 0 where
    pub moves : Moves m r old new d e
    pub mid : Connection F B
    pub head : ℕ
    pub text : List ℕ
    pub closes : Bool
    pub answered : IsAnswered head text closes mid new
    pub count : mid.count ≡ old.count
    pub number : mid.number ≡ old.number
    pub room : mid.received.room ≡ old.received.room
