-- Keys of a table that are written one after the other.
use Rattle.std.specs.Prelude.{[], ⊤, ◌∷◌, ◌≡◌, Bool, is_some, List, Option}
use Rattle.bsp_store_base.specs.Std.{get, Ordering}
use Rattle.bsp_store_base.specs.Base.{Content, MapTable}

-- whether a table has a row of a key
abbrev pub has_row : {K V : Type 0} {R : K → K → Ordering} → MapTable K V R → K → Content → Bool
has_row t k c = is_some (get (t.of c) k)

module _ {K V W C : Type 0} (set : K → Option V → C → C) (at : K → Option V) where
  -- with what is at each of the keys
  abbrev pub with_each : List (K × Option W) → C → C
  with_each [] c = c
  with_each (e ∷ es) c = with_each es (set e.0 (at e.0) c)

  -- when it is written, each key has a row if and only if what was there has one
  abbrev pub AreThere : (K → C → Bool) → (K → Option W → Bool) → List (K × Option W) → C → Type 0
  AreThere holds rows [] c = ⊤
  AreThere holds rows (e ∷ es) c = (holds e.0 c ≡ rows e.0 e.1) × AreThere holds rows es (set e.0 (at e.0) c)
