-- A line of a text, by the number of lines before it.
use Rattle.std.specs.Prelude.{◌≡◌, ℕ, List, ◌∷◌, drop}

-- the line follows so many lines
abbrev pub IsLine : ℕ → List (List ℕ) → List ℕ → Type 0
IsLine n ls line = (more : List (List ℕ)) × (drop n ls ≡ line ∷ more)
