-- What is said on a connection, as it goes on.
use Rattle.std.specs.Prelude.{ℕ, List, ◌++◌}
use Rattle.std.specs.List.{FoldsTo}

module _ {C X : Type 0} (talks : List ℕ → List X → List ℕ → C → Type 0) where
  -- something came, was asked and was sent
  abbrev pub IsTalk : C → Type 0
  IsTalk c = (got : List ℕ) × (xs : List X) × (sent : List ℕ) × talks got xs sent c

  -- nothing more came, was asked or was sent
  abbrev pub IsSame : C → C → Type 0
  IsSame old new = (got : List ℕ) (xs : List X) (sent : List ℕ) → talks got xs sent old → talks got xs sent new

  -- this piece came
  abbrev pub HasGot : List ℕ → C → C → Type 0
  HasGot piece old new = (got : List ℕ) (xs : List X) (sent : List ℕ) → talks got xs sent old → talks (got ++ piece) xs sent new

  -- these bytes were sent
  abbrev pub HasSent : List ℕ → C → C → Type 0
  HasSent bytes old new = (got : List ℕ) (xs : List X) (sent : List ℕ) → talks got xs sent old → talks got xs (sent ++ bytes) new

  -- the desk was asked more, which may depend on all that came: a connection need not keep what it has used
  abbrev pub HasAsked : {D : Type 0} → (D → X → D → Type 0) → D → D → C → C → Type 0
  HasAsked steps d e old new = (got : List ℕ) (xs : List X) (sent : List ℕ) → talks got xs sent old → (ys : List X) × FoldsTo steps d ys e × talks got (xs ++ ys) sent new
