-- All that was done with peers and asked for them, and what of it is one connection's.
use Rattle.std.specs.Prelude.{ℕ, ◌==◌, List, [], ◌∷◌, if◌then◌else◌, map}
use Rattle.std.specs.List.{FoldsTo, flat_map}
use Rattle.bsp_streams.specs.Events.{Event, ends_in, got_in, happened_in, sent_in}
use Rattle.bsp_streams.specs.declared.peers.Ending.{Ending}
use Rattle.bsp_streams.specs.declared.peers.Happened.{Happened}

-- what the desk was asked, and for which connection
pub record Asked (X : Type 0) : Type 0 where
  pub by : ℕ
  pub exchange : X

abbrev pub exchanges : {X : Type 0} → List (Asked X) → List X
exchanges run = map (λ a. a.exchange) run

abbrev pub asked_in : {X : Type 0} → ℕ → Asked X → List X
asked_in i a = if i == a.by then a.exchange ∷ [] else []

-- what happened at each wait
abbrev pub happenings : List Event → List Happened
happenings events = flat_map happened_in events

-- what came on a connection, what the desk was asked for it, what was sent on it, and how it was closed
pub record Share (X : Type 0) : Type 0 where
  pub got : List ℕ
  pub asked : List X
  pub sent : List ℕ
  pub ends : List Ending

abbrev pub nothing : {X : Type 0} → Share X
nothing = record { got = []; asked = []; sent = []; ends = [] }

abbrev pub share_of : {X : Type 0} → ℕ → List Event → List (Asked X) → Share X
share_of i events run = record {
  got = flat_map (got_in i) events;
  asked = flat_map (asked_in i) run;
  sent = flat_map (sent_in i) events;
  ends = flat_map (ends_in i) events;
}

-- what the calls of the peers did, one after the other, and what the desk was asked, one after the other
pub record History {P D X : Type 0} (did : P → Event → P → Type 0) (steps : D → X → D → Type 0) (p0 p : P) (d0 d : D) : Type 0 where
  pub events : List Event
  pub run : List (Asked X)
  pub done : FoldsTo did p0 events p
  pub answered : FoldsTo steps d0 (exchanges run) d
