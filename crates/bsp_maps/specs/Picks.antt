-- The values at some keys that pass a test, each once.
use Rattle.std.specs.Prelude.{Bool, cond, Option, Some, None, List, [], ◌∷◌}
use Rattle.std.specs.declared.cmp.Ordering.{Ordering}
use Rattle.std.specs.FinMap.{FinMap, get, insert}

module _ {K V : Type 0} {R : K → K → Ordering} (holds : K → V → Bool) where
  abbrev pub with_value : K → Option V → FinMap R V → FinMap R V
  with_value k None found = found
  with_value k (Some v) found = cond (holds k v) (insert found k v) found

  -- the value at a key, if it passes
  abbrev pub with_key : FinMap R V → K → FinMap R V → FinMap R V
  with_key m k found = with_value k (get m k) found

  abbrev pub with_keys : FinMap R V → List K → FinMap R V → FinMap R V
  with_keys m [] found = found
  with_keys m (k ∷ ks) found = with_keys m ks (with_key m k found)
