-- An index: the keys of rows, by the place that each row has.
use Rattle.std.specs.Prelude.{◌≡◌, Bool, true, false, cond, List, map, Option, Some, None}
use Rattle.std.specs.List.{filter}
use Rattle.std.specs.declared.cmp.Ordering.{Ordering}
use Rattle.std.specs.Ordering.{eq_by_cmp, is_le, ordering_then}
use Rattle.std.specs.FinMap.{FinMap, IsAntisymmetric, contains_key, entries, get, insert, remove}
use Rattle.bsp_maps.specs.Present.{present}
use Rattle.bsp_maps.specs.Undo.{before, content}
use Rattle.bsp_maps.specs.declared.index.Index.{Index}

-- no two places and no two keys tie
pub record AreExact {P K : Type 0} (RP : P → P → Ordering) (RK : K → K → Ordering) : Type 0 where
  pub places : IsAntisymmetric RP
  pub keys : IsAntisymmetric RK

-- no key is below this one
abbrev pub IsLeast : {K : Type 0} → (K → K → Ordering) → K → Type 0
IsLeast {K} R least = (k : K) → is_le (R least k) ≡ true

-- it is this place
abbrev pub is_place : {P : Type 0} → (P → P → Ordering) → Option P → P → Bool
is_place R None place = false
is_place R (Some p) place = eq_by_cmp R place p

-- ---- the entries of an index

-- by place, and then by key
abbrev pub entry_cmp : {P K : Type 0} → (P → P → Ordering) → (K → K → Ordering) → P × K → P × K → Ordering
entry_cmp RP RK x y = ordering_then (RP x.0 y.0) (RK x.1 y.1)

module _ {P K : Type 0} (RP : P → P → Ordering) (RK : K → K → Ordering) where
  -- the entries now, and at the last commit
  abbrev pub members : Index P K → FinMap (entry_cmp RP RK) (Unit {0})
  members index = present (content (entry_cmp RP RK) index.entries)

  abbrev pub members_before : Index P K → FinMap (entry_cmp RP RK) (Unit {0})
  members_before index = present (before (entry_cmp RP RK) index.entries)

  -- the keys at a place, rising
  abbrev pub keys_at : P → FinMap (entry_cmp RP RK) (Unit {0}) → List K
  keys_at place index = map (λ e. e.0.1) (filter (λ e. eq_by_cmp RP place e.0.0) (entries index))

  -- without a key at a place, and with it there
  abbrev pub without_place : K → Option P → FinMap (entry_cmp RP RK) (Unit {0}) → FinMap (entry_cmp RP RK) (Unit {0})
  without_place key None index = index
  without_place key (Some place) index = remove index (place, key)

  abbrev pub with_place : K → Option P → FinMap (entry_cmp RP RK) (Unit {0}) → FinMap (entry_cmp RP RK) (Unit {0})
  with_place key None index = index
  with_place key (Some place) index = insert index (place, key) tt

  -- a key is at one place alone, or at none
  abbrev pub IsAlone : K → Option P → FinMap (entry_cmp RP RK) (Unit {0}) → Type 0
  IsAlone key at index = (place : P) → contains_key index (place, key) ≡ is_place RP at place

  -- a key is at this place alone now, and each other key where it was
  abbrev pub IsMoved : K → Option P → FinMap (entry_cmp RP RK) (Unit {0}) → FinMap (entry_cmp RP RK) (Unit {0}) → Type 0
  IsMoved key to old new = (place : P) (k : K) → contains_key new (place, k) ≡ cond (eq_by_cmp RK k key) (is_place RP to place) (contains_key old (place, k))

-- ---- the index of rows

-- the place of the row that is found, if one is
abbrev pub found_place : {P K V : Type 0} → (K → V → Option P) → K → Option V → Option P
found_place place k None = None
found_place place k (Some v) = place k v

-- a key is in the index at a place if and only if its row has that place
abbrev pub IsIndex : {P K V : Type 0} (RP : P → P → Ordering) (RK : K → K → Ordering) → (K → V → Option P) → FinMap RK V → FinMap (entry_cmp RP RK) (Unit {0}) → Type 0
IsIndex {P} {K} {V} RP RK place rows index = (k : K) → IsAlone RP RK k (found_place place k (get rows k)) index
