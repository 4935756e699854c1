-- What one step of serving a connection does.
use Rattle.std.specs.Prelude.{◌≡◌, ◌≢◌, ◌<◌, ℕ, true, false, List, [], ◌++◌, length, Option, Some, None, Result, Ok, Err}
use Rattle.bsp_connection.specs.Conversations.{IsRun}
use Rattle.bsp_connection.specs.Exchanges.{Exchange, Meaning, Reading}
use Rattle.bsp_connection.specs.Progress.{most_to_come}
use Rattle.bsp_connection.specs.Talks.{HasTaken, Talks}
use Rattle.bsp_connection.specs.declared.connection.Connection.{Connection}
use Rattle.bsp_connection.specs.declared.serving.End.{End}
use Rattle.bsp_connection.specs.declared.serving.End.TheVariants.{Clean, Cut, Closed}
use Rattle.bsp_connection.specs.declared.serving.ServeFault.{ServeFault}
use Rattle.bsp_connection.specs.declared.serving.ServeFault.TheVariants.{Read, Write, Memory}

-- the input ends after a message, or within one
abbrev pub EndsAt : {F B : Type 0} → Connection F B → End → Type 0
EndsAt c Clean = (c.begun ≡ None) × (c.received.items ≡ [])
EndsAt c Cut = c.begun ≡ None → c.received.items ≢ []
EndsAt c Closed = ⊥

-- a piece was read and taken, or none came
abbrev pub WasRead : {F B : Type 0} → List ℕ → Connection F B → Connection F B → Result (Option End) ServeFault → Type 0
WasRead got old new (Ok None) = HasTaken old got new × (0 < length got)
WasRead got old new (Ok (Some end)) = (got ≡ []) × (new ≡ old) × EndsAt old end
WasRead got old new (Err Read) = (got ≡ []) × (new ≡ old)
WasRead got old new (Err Write) = ⊥
WasRead got old new (Err Memory) = ⊥

module _ {D F B : Type 0} (m : Meaning D) (r : Reading F B) where
  -- this was read, and this was written for what the desk was asked
  abbrev pub Goes : List ℕ → List ℕ → Connection F B → Connection F B → D → D → Type 0
  Goes got text old new d e = (g s : List ℕ) (xs : List Exchange) → Talks m r g xs s old → (ys : List Exchange) × IsRun m d ys e × Talks m r (g ++ got) (xs ++ ys) (s ++ text) new

  -- where all is written, and the connection is open
  abbrev pub IsOpen : Connection F B → Type 0
  IsOpen c = (c.out.bytes ≡ []) × (c.out.apart ≡ false) × (c.closed ≡ false)

  abbrev pub WasStep : List ℕ → List ℕ → Connection F B → Connection F B → D → D → Result (Option End) ServeFault → Type 0
  WasStep got text old new d e (Ok None) = Goes got text old new d e × IsOpen new × (most_to_come new < most_to_come old)
  WasStep got text old new d e (Ok (Some Closed)) = Goes got text old new d e × (new.out.bytes ≡ []) × (new.closed ≡ true) × (new.begun ≡ None)
  WasStep got text old new d e (Ok (Some Clean)) = Goes got text old new d e × IsOpen new × EndsAt new Clean
  WasStep got text old new d e (Ok (Some Cut)) = Goes got text old new d e × IsOpen new × (new.has_more ≡ false) × EndsAt new Cut
  WasStep got text old new d e (Err Read) = Goes got text old new d e × IsOpen new × (new.has_more ≡ false)
  -- a first part of what is put out was written
  WasStep got text old new d e (Err Write) = Goes got [] old new d e × ((others : List ℕ) × (new.out.bytes ≡ text ++ others)) × (new.out.bytes ≢ []) × (new.closed ≡ true → new.begun ≡ None)
  WasStep got text old new d e (Err Memory) = ⊥
