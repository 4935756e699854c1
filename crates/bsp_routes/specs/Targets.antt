-- What a target may be.
use Rattle.std.specs.Prelude.{ℕ, ◌≤◌, ◌≢◌, List, [], All}

-- no `?`, no `%` and nothing above 0x7E
abbrev pub IsClean : List ℕ → Type 0
IsClean target = All (λ b. (b ≤ 126) × (b ≢ 63) × (b ≢ 37)) target

-- a path value has a byte, and no `/`
abbrev pub IsValue : List ℕ → Type 0
IsValue value = (value ≢ []) × All (λ b. b ≢ 47) value
