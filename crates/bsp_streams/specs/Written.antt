-- What is written where a write fails.
use Rattle.std.specs.Prelude.{◌≡◌, ℕ, List, ◌++◌, Option, Result, Ok, Err}
use Rattle.std.specs.Io.KnownBytes.{Appends}

-- the text was written; where the write failed, a first part of it
abbrev pub IsWritten : {E : Type 0} → Option (List ℕ) → Option (List ℕ) → List ℕ → Result (Unit {0}) E → Type 0
IsWritten old new text (Ok u) = Appends old new text
IsWritten old new text (Err e) = (front : List ℕ) × (back : List ℕ) × (text ≡ front ++ back) × Appends old new front
