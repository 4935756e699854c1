-- Each entry of a map in memory, and the map as a value.
use Rattle.std.proofs.Common.{◌≡◌, List, [], ◌∷◌, Some, sym, subst, inl, inr}
use Rattle.std.specs.List.{AllByRecursion, Contains}
use Rattle.std.specs.declared.cmp.Ordering.{Ordering}
use Rattle.std.specs.BTreeMap.{BTreeMap, IsOrdered}
use Rattle.std.specs.Cmp.{IsTotalOrder}
use Rattle.std.specs.FinMap.{IsAntisymmetric, get, entries}
use Rattle.bsp_calendar.proofs.ListLemmas.{contains_head, contains_tail, contains_cases, contains_none}
use Rattle.bsp_maps.proofs.OrderLemmas.{in_order}
use Rattle.bsp_rows.specs.Audit.{as_map}
use Rattle.bsp_rows.proofs.MapLemmas.{entry_get, get_entry}

pub at_each : {A : Type 0} (P : A → Type 0) (xs : List A) → AllByRecursion P xs → (x : A) → Contains xs x → P x
at_each P [] all x in' = contains_none x in'
at_each P (y ∷ ys) all x in' =
    elim (contains_cases y ys x in') [
      | inl here ↦ subst P here all.0
      | inr there ↦ at_each P ys all.1 x there
    ]

pub for_all : {A : Type 0} (P : A → Type 0) (xs : List A) → ((x : A) → Contains xs x → P x) → AllByRecursion P xs
for_all P [] each = tt
for_all P (x ∷ xs) each = (each x (contains_head x xs), for_all P xs (λ y in'. each y (contains_tail x xs y in')))

module _ {K X : Type 0} {R : K → K → Ordering} (o : IsTotalOrder R) (exact : IsAntisymmetric R) (m : BTreeMap K X) (ordered : IsOrdered R m) where
  abbrev pub same_entries : entries (as_map R m) ≡ m.entries
  same_entries = in_order o m.entries ordered

  -- what is at a key is an entry, and an entry is at its key
  pub entry_at : (k : K) (v : X) → get (as_map R m) k ≡ Some v → Contains m.entries (k, v)
  entry_at k v h = subst (λ (es : List (K × X)). Contains es (k, v)) same_entries (get_entry o exact (as_map R m) k v h)

  pub at_entry : (k : K) (v : X) → Contains m.entries (k, v) → get (as_map R m) k ≡ Some v
  at_entry k v in' = entry_get o exact (as_map R m) k v (subst (λ (es : List (K × X)). Contains es (k, v)) (sym same_entries) in')

  pub met_by_each : (P : K → X → Type 0) → AllByRecursion (λ e. P e.0 e.1) m.entries → (k : K) (v : X) → get (as_map R m) k ≡ Some v → P k v
  met_by_each P all k v h = at_each (λ (e : K × X). P e.0 e.1) m.entries all (k, v) (entry_at k v h)

  pub met_by_all : (P : K → X → Type 0) → ((k : K) (v : X) → get (as_map R m) k ≡ Some v → P k v) → AllByRecursion (λ e. P e.0 e.1) m.entries
  met_by_all P each = for_all (λ (e : K × X). P e.0 e.1) m.entries (λ e in'. each e.0 e.1 (at_entry e.0 e.1 in'))
