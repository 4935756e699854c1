-- A map that remembers what was at the keys that it wrote.
use Rattle.std.specs.Prelude.{◌≡◌, Bool, Option, Some, None, List, [], ◌∷◌, if◌then◌else◌, unwrap_or}
use Rattle.std.specs.declared.cmp.Ordering.{Ordering}
use Rattle.std.specs.FinMap.{FinMap, from_entries, contains_key, get, insert, remove}
use Rattle.bsp_maps.specs.declared.logged.Old.{Old}
use Rattle.bsp_maps.specs.declared.logged.Logged.{Logged}

-- what was at a key is put back
abbrev pub value_restored : {K V : Type 0} {R : K → K → Ordering} → K → Option V → FinMap R V → FinMap R V
value_restored k None m = remove m k
value_restored k (Some v) m = if contains_key m k then insert m k v else m

module _ {K V : Type 0} {R : K → K → Ordering} where
  abbrev pub restored : Old K V → FinMap R V → FinMap R V
  restored old m = value_restored old.key old.value m

  -- the last is put back first
  abbrev pub undone : List (Old K V) → FinMap R V → FinMap R V
  undone [] m = m
  undone (old ∷ olds) m = restored old (undone olds m)

module _ {K V : Type 0} (R : K → K → Ordering) where
  -- the entries
  abbrev pub content : Logged K V → FinMap R V
  content t = from_entries t.map.entries

  -- the entries at the last commit
  abbrev pub before : Logged K V → FinMap R V
  before t = undone t.undo.items (content t)

-- what can be put back at a key, by whether there is a value
abbrev pub restorable : {V : Type 0} → Bool → Option V → Option V
restorable there old = if there then old else None

-- what was at keys, and at each other key what is there
abbrev pub IsEarlier : {K V : Type 0} {R : K → K → Ordering} → FinMap R (Option V) → FinMap R V → FinMap R V → Type 0
IsEarlier {K} found now before = (q : K) → get before q ≡ unwrap_or (get found q) (get now q)
