-- What is done with peers, and what of it is one connection's.
use Rattle.std.specs.Prelude.{ℕ, ◌==◌, List, [], ◌∷◌, take, if◌then◌else◌}
use Rattle.bsp_streams.specs.declared.peers.Ending.{Ending}
use Rattle.bsp_streams.specs.declared.peers.Happened.{Happened}
use Rattle.bsp_streams.specs.declared.peers.Moved.{Moved}
use Rattle.bsp_streams.specs.declared.peers.Moved.TheVariants.{Bytes, NotNow, Ended, Failed}

pub data Event : Type 0 where
  -- the peers were waited for, and this happened
  happened : (what : Happened) → Event
  -- nothing was read, written or closed
  quiet : Event
  -- these bytes came on the connection
  got : (number : ℕ) → (bytes : List ℕ) → Event
  -- these bytes were taken from the connection
  sent : (number : ℕ) → (bytes : List ℕ) → Event
  -- the connection was closed
  closed : (number : ℕ) → (how : Ending) → Event

-- one read, and one write
abbrev pub read_event : ℕ → Moved → List ℕ → Event
read_event number (Bytes count) room = got number (take count room)
read_event number NotNow room = quiet
read_event number Ended room = quiet
read_event number Failed room = quiet

abbrev pub write_event : ℕ → Moved → List ℕ → Event
write_event number (Bytes count) bytes = sent number (take count bytes)
write_event number NotNow bytes = quiet
write_event number Ended bytes = quiet
write_event number Failed bytes = quiet

-- the bytes that came on a connection
abbrev pub got_in : ℕ → Event → List ℕ
got_in i (happened what) = []
got_in i quiet = []
got_in i (got number bytes) = if i == number then bytes else []
got_in i (sent number bytes) = []
got_in i (closed number how) = []

-- the bytes that were sent on it
abbrev pub sent_in : ℕ → Event → List ℕ
sent_in i (happened what) = []
sent_in i quiet = []
sent_in i (got number bytes) = []
sent_in i (sent number bytes) = if i == number then bytes else []
sent_in i (closed number how) = []

-- how it was closed
abbrev pub ends_in : ℕ → Event → List Ending
ends_in i (happened what) = []
ends_in i quiet = []
ends_in i (got number bytes) = []
ends_in i (sent number bytes) = []
ends_in i (closed number how) = if i == number then how ∷ [] else []

-- what happened
abbrev pub happened_in : Event → List Happened
happened_in (happened what) = what ∷ []
happened_in quiet = []
happened_in (got number bytes) = []
happened_in (sent number bytes) = []
happened_in (closed number how) = []
