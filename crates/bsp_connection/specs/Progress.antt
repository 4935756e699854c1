-- That a connection which is read goes on, so that it ends.
use Rattle.std.specs.Prelude.{◌≡◌, ◌⊎◌, ℕ, ◌+◌, ◌*◌, ◌-◌, ◌<◌, ◌≤◌, true, false, List, length, Option, Some, None}
use Rattle.bsp_connection.specs.declared.connection.Begun.{Begun}
use Rattle.bsp_connection.specs.declared.connection.Connection.{Connection}

module _ {F : Type 0} where
  -- how many bytes of a message are to come, its head and the longest body counted where it is not begun
  abbrev pub to_come : Option (Begun F) → List ℕ → ℕ
  to_come None received = 4194305 + (16384 - length received)
  to_come (Some b) received = b.left - (length received - b.head)

  -- more is to come
  abbrev pub IsAtRest : Option (Begun F) → List ℕ → Type 0
  IsAtRest None received = length received < 16384
  IsAtRest (Some b) received = (length received ≡ b.head) × (0 < b.left)

module _ {F B : Type 0} where
  -- the bytes of a connection that are to come at the most
  abbrev pub most_to_come : Connection F B → ℕ
  most_to_come c = (65536 - c.count) * 4300000 + to_come c.begun c.received.items

  -- a message was answered, or less of it is to come
  pub record IsFurther (old new : Connection F B) : Type 0 where
    pub rest : new.has_more ≡ false → IsAtRest new.begun new.received.items
    pub further :
        ((new.count ≡ old.count + 1) × (new.begun ≡ None))
        ⊎ ((new.count ≡ old.count) × (new.has_more ≡ true → to_come new.begun new.received.items < to_come old.begun old.received.items)
        × (new.has_more ≡ false → to_come new.begun new.received.items ≤ to_come old.begun old.received.items))

  -- or the connection is closed
  abbrev pub IsOn : Connection F B → Connection F B → Type 0
  IsOn old new = (new.closed ≡ true) ⊎ IsFurther old new
