-- A map brought up to another one, key by key.
use Rattle.std.specs.Prelude.{[], ◌∷◌, List, None, Option, Some}
use Rattle.bsp_store_base.specs.Std.{FinMap, get, insert, remove, Ordering}

module _ {K V : Type 0} {R : K → K → Ordering} where
  -- with this value at the key, or with none
  abbrev pub with_value : K → Option V → FinMap R V → FinMap R V
  with_value k None m = remove m k
  with_value k (Some v) m = insert m k v

  -- with what `now` has at each of the keys
  abbrev pub synced : List K → FinMap R V → FinMap R V → FinMap R V
  synced [] now m = m
  synced (k ∷ ks) now m = synced ks now (with_value k (get now k) m)
