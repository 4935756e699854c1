-- What waits to be used.
use Rattle.std.specs.Prelude.{ℕ, List}

-- bytes, and how many there is room for
pub record Waiting : Type 0 where
  pub items : List ℕ
  pub room : ℕ
