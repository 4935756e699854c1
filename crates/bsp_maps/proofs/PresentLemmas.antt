-- What a map that may have no value at a key has at it.
use Rattle.std.proofs.Common.{◌≡◌, Bool, true, false, cond, List, [], ◌∷◌, refl, sym, ap, ◌∙◌, Ordering, Less, Option, Some, None}
use Rattle.std.specs.Prelude.{T}
use Rattle.std.specs.List.{AllByRecursion, filter_map}
use Rattle.std.specs.List.Sorted.{IsStrictlySortedBy}
use Rattle.std.specs.Map.{keys_of}
use Rattle.std.specs.Ordering.{is_lt, eq_by_cmp}
use Rattle.std.specs.Cmp.{Equal-is, IsTotalOrder}
use Rattle.std.specs.FinMap.{FinMap, IsAntisymmetric, get, insert, remove, empty, entries, entries_sorted, get-insert, get-remove, get_tied, get-empty, get-from_entries, get-entries, same_map, find}
use Rattle.std.specs.FinMap.Entries.{is_sorted, below_all}
use Rattle.bsp_maps.proofs.OrderLemmas.{in_order}
use Rattle.bsp_maps.proofs.Orderings.{both, first, less, none_behind, second}
use Rattle.bsp_maps.specs.Present.{present, present_entry, with_present_value}

-- the value that is there, if one is
abbrev pub flat : {V : Type 0} → Option (Option V) → Option V
flat None = None
flat (Some v) = v

-- with those of entries, the first one first
abbrev pub with_present : {K V : Type 0} {R : K → K → Ordering} → List (K × Option V) → FinMap R V → FinMap R V
with_present [] m = m
with_present (e ∷ es) m = with_present es (with_present_value e.0 e.1 m)

module _ {K V : Type 0} (R : K → K → Ordering) (o : IsTotalOrder R) where
  step : (q k : K) (w : Option V) (es : List (K × Option V)) (b : Bool) → eq_by_cmp R q k ≡ b → T (below_all R k es) → find R q (filter_map present_entry es) ≡ flat (find R q es)
      → find R q (filter_map present_entry ((k, w) ∷ es)) ≡ flat (cond b (Some w) (find R q es))
  step q k None es true tie up h = h ∙ ap flat (none_behind R o q k es ((Equal-is (R q k)).0 tie) up)
  step q k None es false tie up h = h
  step q k (Some v) es true tie up h = ap (λ b. cond b (Some v) (find R q (filter_map present_entry es))) tie
  step q k (Some v) es false tie up h = ap (λ b. cond b (Some v) (find R q (filter_map present_entry es))) tie ∙ h

  find_present : (q : K) (es : List (K × Option V)) → T (is_sorted R es) → find R q (filter_map present_entry es) ≡ flat (find R q es)
  find_present q [] up = refl
  find_present q (e ∷ es) up = step q e.0 e.1 es (eq_by_cmp R q e.0) refl (first (below_all R e.0 es) (is_sorted R es) up) (find_present q es (second (below_all R e.0 es) (is_sorted R es) up))

module _ {K V : Type 0} {R : K → K → Ordering} (o : IsTotalOrder R) where
  pub get-present : (m : FinMap R (Option V)) (q : K) → get (present m) q ≡ flat (get m q)
  get-present m q = get-from_entries o (filter_map present_entry (entries m)) q ∙ find_present R o q (entries m) (entries_sorted m) ∙ ap flat (sym (get-entries m q))

  apart : (b : Bool) (w : Option V) (found : Option (Option V)) → flat (cond b (Some w) found) ≡ cond b w (flat found)
  apart true w found = refl
  apart false w found = refl

  at : (m : FinMap R (Option V)) (k q : K) (w : Option V) → get (present (insert m k w)) q ≡ cond (eq_by_cmp R q k) w (get (present m) q)
  at m k q w = get-present (insert m k w) q ∙ ap flat (get-insert o m k w q) ∙ apart (eq_by_cmp R q k) w (get m q) ∙ ap (cond (eq_by_cmp R q k) w) (sym (get-present m q))

  -- a value that is written, and one that is taken back
  pub present-insert : IsAntisymmetric R → (m : FinMap R (Option V)) (k : K) (v : V) → present (insert m k (Some v)) ≡ insert (present m) k v
  present-insert exact m k v = same_map o exact _ _ (λ q. at m k q (Some v) ∙ sym (get-insert o (present m) k v q))

  pub present-remove : IsAntisymmetric R → (m : FinMap R (Option V)) (k : K) → present (insert m k None) ≡ remove (present m) k
  present-remove exact m k = same_map o exact _ _ (λ q. at m k q None ∙ sym (get-remove o (present m) k q))

-- an entry without a value is taken out
module _ {K V : Type 0} {R : K → K → Ordering} (o : IsTotalOrder R) (exact : IsAntisymmetric R) where
  at_absent : (m : FinMap R (Option V)) (k q : K) (b : Bool) → eq_by_cmp R q k ≡ b → get m k ≡ Some None → flat (cond b None (get m q)) ≡ flat (get m q)
  at_absent m k q true tie absent = sym (ap flat (sym (get_tied o m q k ((Equal-is (R q k)).0 tie)) ∙ absent))
  at_absent m k q false tie absent = refl

  pub present-remove_absent : (m : FinMap R (Option V)) (k : K) → get m k ≡ Some None → present (remove m k) ≡ present m
  present-remove_absent m k absent = same_map o exact _ _ (λ q.
      get-present o (remove m k) q ∙ ap flat (get-remove o m k q) ∙ at_absent m k q (eq_by_cmp R q k) refl absent ∙ sym (get-present o m q))

pub no_present : {K V : Type 0} (R : K → K → Ordering) → IsTotalOrder R → IsAntisymmetric R → present (empty {X = Option V} {R = R}) ≡ empty
no_present R o exact = same_map o exact _ _ (λ q. get-present o empty q ∙ ap flat (get-empty R q) ∙ sym (get-empty R q))

-- ---- the entries that have a value

module _ {K V : Type 0} (R : K → K → Ordering) where
  below_present : (x : K) (es : List (K × Option V)) → T (below_all R x es) → T (below_all R x (filter_map present_entry es))
  below_present x [] up = tt
  below_present x ((k, None) ∷ es) up = below_present x es (second (is_lt (R x k)) (below_all R x es) up)
  below_present x ((k, Some v) ∷ es) up = both (is_lt (R x k)) (below_all R x (filter_map present_entry es)) (first (is_lt (R x k)) (below_all R x es) up) (below_present x es (second (is_lt (R x k)) (below_all R x es) up))

  sorted_present : (es : List (K × Option V)) → T (is_sorted R es) → T (is_sorted R (filter_map present_entry es))
  sorted_present [] up = tt
  sorted_present ((k, None) ∷ es) up = sorted_present es (second (below_all R k es) (is_sorted R es) up)
  sorted_present ((k, Some v) ∷ es) up = both (below_all R k (filter_map present_entry es)) (is_sorted R (filter_map present_entry es)) (below_present k es (first (below_all R k es) (is_sorted R es) up)) (sorted_present es (second (below_all R k es) (is_sorted R es) up))

  all_below : (x : K) (es : List (K × V)) → T (below_all R x es) → AllByRecursion (λ y. R x y ≡ Less) (keys_of es)
  all_below x [] up = tt
  all_below x (e ∷ es) up = (less (R x e.0) (first (is_lt (R x e.0)) (below_all R x es) up), all_below x es (second (is_lt (R x e.0)) (below_all R x es) up))

  strictly : (es : List (K × V)) → T (is_sorted R es) → IsStrictlySortedBy R (keys_of es)
  unfolding IsStrictlySortedBy
  strictly [] up = tt
  strictly (e ∷ es) up = (all_below e.0 es (first (below_all R e.0 es) (is_sorted R es) up), strictly es (second (below_all R e.0 es) (is_sorted R es) up))

pub entries-present : {K V : Type 0} {R : K → K → Ordering} → IsTotalOrder R → (m : FinMap R (Option V)) → entries (present m) ≡ filter_map present_entry (entries m)
entries-present {K} {V} {R} o m = in_order o (filter_map present_entry (entries m)) (strictly R (filter_map present_entry (entries m)) (sorted_present R (entries m) (entries_sorted m)))

-- ---- the map of the entries that have a value

module _ {K V : Type 0} {R : K → K → Ordering} (o : IsTotalOrder R) where
  abbrev or_there : Option V → Option V → Option V
  or_there None y = y
  or_there (Some v) y = Some v

  present_step : (q k : K) (w : Option V) (es : List (K × Option V)) (m : FinMap R V) (b : Bool) → eq_by_cmp R q k ≡ b → T (below_all R k es)
      → get (with_present es (with_present_value k w m)) q ≡ or_there (flat (find R q es)) (get (with_present_value k w m) q)
      → get (with_present es (with_present_value k w m)) q ≡ or_there (flat (cond b (Some w) (find R q es))) (get m q)
  present_step q k None es m true tie up h = h ∙ ap (λ f. or_there (flat f) (get m q)) (none_behind R o q k es ((Equal-is (R q k)).0 tie) up)
  present_step q k None es m false tie up h = h
  present_step q k (Some v) es m true tie up h =
      h ∙ ap (λ f. or_there (flat f) (get (insert m k v) q)) (none_behind R o q k es ((Equal-is (R q k)).0 tie) up)
      ∙ get-insert o m k v q ∙ ap (λ b. cond b (Some v) (get m q)) tie
  present_step q k (Some v) es m false tie up h = h ∙ ap (or_there (flat (find R q es))) (get-insert o m k v q ∙ ap (λ b. cond b (Some v) (get m q)) tie)

  get-with_present : (q : K) (es : List (K × Option V)) (m : FinMap R V) → T (is_sorted R es) → get (with_present es m) q ≡ or_there (flat (find R q es)) (get m q)
  get-with_present q [] m up = refl
  get-with_present q (e ∷ es) m up = present_step q e.0 e.1 es m (eq_by_cmp R q e.0) refl (first (below_all R e.0 es) (is_sorted R es) up) (get-with_present q es (with_present_value e.0 e.1 m) (second (below_all R e.0 es) (is_sorted R es) up))

  alone : (w : Option V) → or_there w None ≡ w
  alone None = refl
  alone (Some v) = refl

  pub with_present-empty : IsAntisymmetric R → (m : FinMap R (Option V)) → with_present (entries m) empty ≡ present m
  with_present-empty exact m = same_map o exact (with_present (entries m) empty) (present m) (λ q.
      get-with_present q (entries m) empty (entries_sorted m)
      ∙ ap (or_there (flat (find R q (entries m)))) (get-empty R q)
      ∙ alone (flat (find R q (entries m)))
      ∙ ap flat (sym (get-entries m q))
      ∙ sym (get-present o m q))
