-- What one read, one write and the end of a turn do to a connection.
use Rattle.std.specs.Prelude.{◌≡◌, ℕ, List, Option, Some, None}
use Rattle.bsp_streams.specs.Events.{Event}
use Rattle.bsp_streams.specs.Events.Event.{happened, quiet, got, sent, closed}
use Rattle.bsp_streams.specs.Talks.{HasGot, HasSent, IsSame}
use Rattle.bsp_streams.specs.declared.peers.Ending.{Ending}
use Rattle.bsp_streams.specs.declared.peers.Ending.TheVariants as ending

module _ {C X : Type 0} (talks : List ℕ → List X → List ℕ → C → Type 0) where
  -- the piece that came is taken, and the connection goes on; or there was no memory for it
  abbrev pub TakesPiece : List ℕ → C → C → Option Ending → Type 0
  TakesPiece piece old new None = HasGot talks piece old new
  TakesPiece piece old new (Some ending.NoRoom) = IsSame talks old new
  TakesPiece piece old new (Some ending.Whole) = ⊥
  TakesPiece piece old new (Some ending.Late) = ⊥
  TakesPiece piece old new (Some ending.Failed) = ⊥

  -- the bytes that were sent are noted so
  abbrev pub NotesSent : List ℕ → C → C → Option Ending → Type 0
  NotesSent bytes old new None = HasSent talks bytes old new
  NotesSent bytes old new (Some how) = ⊥

-- nothing came and nothing was sent
abbrev pub Stays : {C : Type 0} → C → C → Option Ending → Type 0
Stays old new None = new ≡ old
Stays old new (Some ending.Failed) = new ≡ old
Stays old new (Some ending.Whole) = ⊥
Stays old new (Some ending.Late) = ⊥
Stays old new (Some ending.NoRoom) = ⊥

module _ {C X : Type 0} (talks : List ℕ → List X → List ℕ → C → Type 0) where
  -- one read of the connection of this number
  abbrev pub Reads : ℕ → Event → C → C → Option Ending → Type 0
  Reads number (happened what) old new result = ⊥
  Reads number quiet old new result = Stays old new result
  Reads number (got n piece) old new result = (n ≡ number) × TakesPiece talks piece old new result
  Reads number (sent n bytes) old new result = ⊥
  Reads number (closed n how) old new result = ⊥

  -- one write of it
  abbrev pub Writes : ℕ → Event → C → C → Option Ending → Type 0
  Writes number (happened what) old new result = ⊥
  Writes number quiet old new result = Stays old new result
  Writes number (got n piece) old new result = ⊥
  Writes number (sent n bytes) old new result = (n ≡ number) × NotesSent talks bytes old new result
  Writes number (closed n how) old new result = ⊥

-- it is waited for, or all is sent and nothing is answered
abbrev pub Settles : {P C : Type 0} → (P → Event → P → Type 0) → (C → Type 0) → P → P → C → Option Ending → Type 0
Settles did rests p q c None = did p quiet q
Settles did rests p q c (Some ending.Whole) = (q ≡ p) × rests c
Settles did rests p q c (Some ending.Late) = ⊥
Settles did rests p q c (Some ending.Failed) = ⊥
Settles did rests p q c (Some ending.NoRoom) = ⊥
