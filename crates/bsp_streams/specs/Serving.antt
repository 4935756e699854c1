-- Connections that are held, and those that are gone.
use Rattle.std.specs.Prelude.{◌≡◌, ◌≢◌, ℕ, ◌-◌, ◌^◌, ◌<◌, ◌≤◌, ◌⊎◌, Bool, false, List, [], ◌∷◌, ◌++◌, length, Option, Some, None}
use Rattle.std.specs.Ordering.{nat_cmp}
use Rattle.std.specs.BTreeMap.{get}
use Rattle.std.specs.List.{Contains}
use Rattle.bsp_streams.specs.Events.{Event}
use Rattle.bsp_streams.specs.Shares.{History, Share, happenings, nothing, share_of}
use Rattle.bsp_streams.specs.declared.held.Held.{Held}
use Rattle.bsp_streams.specs.declared.held.Table.{Table}
use Rattle.bsp_streams.specs.declared.peers.Ending.{Ending}
use Rattle.bsp_streams.specs.declared.peers.Ending.TheVariants as ending
use Rattle.bsp_streams.specs.declared.peers.Happened.{Happened}
use Rattle.bsp_streams.specs.declared.peers.Happened.TheVariants.{Stop}

-- ---- one connection

-- how it was closed: these bytes of the peer were not taken, and none but where there was no memory for the last; where it was closed
-- as whole, all is sent
abbrev pub EndsAs : {C : Type 0} → (C → Type 0) → Ending → List ℕ → C → Type 0
EndsAs rests ending.Whole lost c = (lost ≡ []) × rests c
EndsAs rests ending.Late lost c = lost ≡ []
EndsAs rests ending.Failed lost c = lost ≡ []
EndsAs rests ending.NoRoom lost c = Unit {0}

-- the same of one that may be open still; none is closed twice
abbrev pub Ends : {C : Type 0} → (C → Type 0) → List Ending → List ℕ → C → Type 0
Ends rests [] lost c = lost ≡ []
Ends rests (how ∷ []) lost c = EndsAs rests how lost c
Ends rests (how ∷ again ∷ more) lost c = ⊥

abbrev pub closed_as : {X : Type 0} → Ending → Share X → Share X
closed_as how s = record { got = s.got; asked = s.asked; sent = s.sent; ends = s.ends ++ how ∷ [] }

module _ {C X : Type 0} (talks : List ℕ → List X → List ℕ → C → Type 0) (rests : C → Type 0) where
  -- what came on it, was asked for it and was sent on it is what is said on a connection
  pub record IsServed (s : Share X) : Type 0 where
    pub connection : C
    pub taken : List ℕ
    pub lost : List ℕ
    pub came : s.got ≡ taken ++ lost
    pub said : talks taken s.asked s.sent connection
    pub ended : Ends rests s.ends lost connection

  -- it goes on
  abbrev pub IsOngoing : C → Share X → Type 0
  IsOngoing c s = talks s.got s.asked s.sent c × (s.ends ≡ [])

  -- after a turn it goes on, or can be closed so
  abbrev pub IsAfter : C → Option Ending → Share X → Type 0
  IsAfter c None s = IsOngoing c s
  IsAfter c (Some how) s = IsServed (closed_as how s)

  -- it is held, or it was closed
  abbrev pub IsKnown : Share X → Option (Held C) → Type 0
  IsKnown s (Some held) = IsOngoing held.connection s
  IsKnown s None = IsServed s × (s.ends ≢ [])

  -- a number below the next is a connection's, and no other is
  abbrev pub IsHeld : Share X → ℕ → ℕ → Option (Held C) → Type 0
  IsHeld s i next o = (i < next → IsKnown s o) × (next ≤ i → (s ≡ nothing) × (o ≡ None))

-- ---- all connections

module _ {P D C X : Type 0} (did : P → Event → P → Type 0) (steps : D → X → D → Type 0) (talks : List ℕ → List X → List ℕ → C → Type 0) (rests : C → Type 0) where
  -- as many came as were to come, and each was closed; or the peers can be waited for no more; or they were waited for 2^64 - 1 times
  abbrev pub IsOver : ℕ → ℕ → (ℕ → Share X) → List Happened → Type 0
  IsOver in_all count shares waits = ((count ≡ in_all) × ((i : ℕ) → i < count → (shares i).ends ≢ [])) ⊎ (Contains waits Stop ⊎ (2 ^ 64 - 1 ≤ length waits))

  -- each of so many connections was served, no other came, and nothing more is to be done
  pub record Served (p0 p : P) (d0 d : D) (in_all count : ℕ) : Type 0 where
    pub history : History did steps p0 p d0 d
    pub each : (i : ℕ) → i < count → IsServed talks rests (share_of i history.events history.run)
    pub others : (i : ℕ) → count ≤ i → share_of i history.events history.run ≡ nothing
    pub over : IsOver in_all count (λ i. share_of i history.events history.run) (happenings history.events)

  -- a connection goes on after something that was done and asked
  abbrev pub IsUnderWay : ℕ → C → P → D → Type 0
  IsUnderWay number c p d = (p0 : P) × (d0 : D) × (h : History did steps p0 p d0 d) × IsOngoing talks rests c (share_of number h.events h.run)

  -- a turn of one, whatever was done and asked before: no other has a part in it, and nothing is waited for
  abbrev pub Turns : ℕ → C → C → Option Ending → P → P → D → D → Type 0
  Turns number old new result p q d e = (p0 : P) (d0 : D) (h : History did steps p0 p d0 d) → IsOngoing talks rests old (share_of number h.events h.run)
      → (k : History did steps p0 q d0 e) × IsAfter talks rests new result (share_of number k.events k.run) × ((j : ℕ) → j ≢ number → share_of j k.events k.run ≡ share_of j h.events h.run)
      × (happenings k.events ≡ happenings h.events)

  -- the table has each connection as it is after what was done and asked; so the waits were
  pub record SoFar (p0 p : P) (d0 d : D) (waits : List Happened) (table : Table C) : Type 0 where
    pub history : History did steps p0 p d0 d
    pub waited : happenings history.events ≡ waits
    pub each : (i : ℕ) → IsHeld talks rests (share_of i history.events history.run) i table.next (get nat_cmp table.held i)

  abbrev pub IsServing : P → D → Table C → Type 0
  IsServing p d table = (p0 : P) × (d0 : D) × (waits : List Happened) × SoFar p0 p d0 d waits table

  -- something more, whatever was done and asked before, and no wait
  abbrev pub Goes : P → P → D → D → Table C → Table C → Type 0
  Goes p q d e t u = (p0 : P) (d0 : D) (waits : List Happened) → SoFar p0 p d0 d waits t → SoFar p0 q d0 e waits u

  -- one wait, and what it asks for; whether there is another
  abbrev pub Steps : P → P → D → D → Table C → Table C → Bool → Type 0
  Steps p q d e t u again = (what : Happened) × ((p0 : P) (d0 : D) (waits : List Happened) → SoFar p0 p d0 d waits t → SoFar p0 q d0 e (waits ++ what ∷ []) u) × (again ≡ false → what ≡ Stop)
