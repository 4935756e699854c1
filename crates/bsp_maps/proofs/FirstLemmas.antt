-- The first entry of an index from a place on.
use Rattle.std.proofs.Common.{◌≡◌, Bool, true, false, cond, ◌&&◌, ◌||◌, List, [], ◌∷◌, map, refl, sym, ap, ◌∙◌, Ordering, Less, Equal, Greater, Option, Some, None, is_some}
use Rattle.std.specs.Prelude.{T, option_map, unwrap_or}
use Rattle.std.specs.List.{filter, filter_map, find, list_any}
use Rattle.std.specs.Ordering.{eq_by_cmp, is_eq, is_le, is_lt, ordering_then}
use Rattle.std.specs.Cmp.{IsTotalOrder, tied_itself}
use Rattle.std.specs.FinMap.{FinMap, IsAntisymmetric, contains_key, contains_key-keys, entries, entries_sorted, keys}
use Rattle.std.specs.FinMap.Entries.{below_all, is_sorted}
use Rattle.std.specs.BTreeMap.Range.{entries_between, range_contains}
use Rattle.std.specs.List.Sorted.{IsStrictlySortedBy}
use Rattle.std.specs.Map.{keys_of}
use Rattle.std.specs.declared.ops.Bound.TheVariants.{Included, Unbounded}
use Rattle.bsp_maps.specs.Present.{present, present_entry}
use Rattle.bsp_maps.specs.Undo.{content}
use Rattle.bsp_maps.specs.declared.logged.Logged.{Logged}
use Rattle.bsp_maps.proofs.ContentLemmas.{of_content}
use Rattle.bsp_maps.proofs.Orderings.{first, less, second}
use Rattle.bsp_maps.proofs.PresentLemmas.{entries-present}
use Rattle.bsp_maps.specs.Indexes.{IsLeast, entry_cmp}
use Rattle.bsp_maps.proofs.EntryLemmas.{entry_total, tied}

-- ---- among the entries that are there

module _ {K : Type 0} (from pass : K → Bool) (alike : (k : K) → from k ≡ pass k) where
  at_absent : (k : K) (es : List (K × Option (Unit {0}))) (b : Bool) → find (λ e. is_some e.1) (cond b ((k, None) ∷ es) es) ≡ find (λ e. is_some e.1) es
  at_absent k es true = refl
  at_absent k es false = refl

  at_there : (k : K) (u : Unit {0}) (es : List (K × Option (Unit {0}))) (rest : Option K) (b : Bool) → option_map (λ e. e.0) (find (λ e. is_some e.1) es) ≡ rest
      → option_map (λ e. e.0) (find (λ e. is_some e.1) (cond b ((k, Some u) ∷ es) es)) ≡ cond b (Some k) rest
  at_there k u es rest true h = refl
  at_there k u es rest false h = h

  pub first_there : (es : List (K × Option (Unit {0}))) → option_map (λ e. e.0) (find (λ e. is_some e.1) (filter (λ e. from e.0) es)) ≡ find pass (map (λ e. e.0) (filter_map present_entry es))
  first_there [] = refl
  first_there ((k, None) ∷ es) = ap (option_map (λ e. e.0)) (at_absent k (filter (λ e. from e.0) es) (from k)) ∙ first_there es
  first_there ((k, Some u) ∷ es) =
      at_there k u (filter (λ e. from e.0) es) (find pass (map (λ e. e.0) (filter_map present_entry es))) (from k) (first_there es)
      ∙ ap (λ b. cond b (Some k) (find pass (map (λ e. e.0) (filter_map present_entry es)))) (alike k)

place_le : (a b : Ordering) → is_le b ≡ true → (is_le (ordering_then a b) && true) ≡ is_le a
place_le Less b h = refl
place_le Equal b h = ap (λ c. c && true) h
place_le Greater b h = refl

-- from the least key at a place on
pub from_place : {P K : Type 0} (RP : P → P → Ordering) (RK : K → K → Ordering) (place : P) (least : K) → IsLeast RK least → (e : P × K) → range_contains (entry_cmp RP RK) (Included (place, least)) Unbounded e ≡ is_le (RP place e.0)
from_place RP RK place least is e = place_le (RP place e.0) (RK least e.1) (is e.1)

pub first_of : {P K : Type 0} (RP : P → P → Ordering) (RK : K → K → Ordering) → IsTotalOrder RP → IsTotalOrder RK → (place : P) (least : K) → IsLeast RK least → (index : Logged (P × K) (Option (Unit {0}))) → IsStrictlySortedBy (entry_cmp RP RK) (keys_of index.map.entries)
    → option_map (λ e. e.0) (find (λ e. is_some e.1) (entries_between (entry_cmp RP RK) (Included (place, least)) Unbounded index.map.entries)) ≡ find (λ e. is_le (RP place e.0)) (keys (present (content (entry_cmp RP RK) index)))
first_of {P} {K} RP RK op ok place least is index sorted =
    let total = entry_total op ok in
    let pass : P × K → Bool = λ e. is_le (RP place e.0) in
    first_there (range_contains (entry_cmp RP RK) (Included (place, least)) Unbounded) pass (from_place RP RK place least is) index.map.entries
    ∙ ap (λ es. find pass (map (λ e. e.0) (filter_map present_entry es))) (of_content total index index.map refl sorted)
    ∙ ap (λ (es : List ((P × K) × Unit {0})). find pass (map (λ e. e.0) es)) (sym (entries-present total (content (entry_cmp RP RK) index)))

-- ---- what the first key that passes says of the others

or_true : (b : Bool) → (b || true) ≡ true
or_true true = refl
or_true false = refl

module _ {K : Type 0} (R : K → K → Ordering) (exact : IsAntisymmetric R) (pass : K → Bool) where
  same : (k x : K) → eq_by_cmp R k x ≡ true → k ≡ x
  same k x tie = exact k x (tied (R k x) tie)

  none_step : (k x : K) (ks : List K) (p t : Bool) → pass x ≡ p → eq_by_cmp R k x ≡ t → (find pass ks ≡ None → list_any (eq_by_cmp R k) ks ≡ true → pass k ≡ false)
      → cond p (Some x) (find pass ks) ≡ None → (t || list_any (eq_by_cmp R k) ks) ≡ true → pass k ≡ false
  none_step k x ks true t is tie rest none in' = absurd (cc none)
  none_step k x ks false true is tie rest none in' = ap pass (same k x tie) ∙ is
  none_step k x ks false false is tie rest none in' = rest none in'

  none_passes : (k : K) (ks : List K) → find pass ks ≡ None → list_any (eq_by_cmp R k) ks ≡ true → pass k ≡ false
  none_passes k [] none in' = absurd (cc in')
  none_passes k (x ∷ ks) none in' = none_step k x ks (pass x) (eq_by_cmp R k x) refl refl (none_passes k ks) none in'

  one : (x y : K) → Some x ≡ Some y → x ≡ y
  one x y e = ap (λ (o : Option K). unwrap_or o x) e

  module _ (o : IsTotalOrder R) where
    at_itself : (k x : K) → k ≡ x → R k x ≡ Equal
    at_itself k x e = ap (R k) (sym e) ∙ tied_itself o k

    found_step : (k x : K) (ks : List K) (p : Bool) → pass x ≡ p → (find pass ks ≡ Some k → (list_any (eq_by_cmp R k) ks ≡ true) × (pass k ≡ true))
        → cond p (Some x) (find pass ks) ≡ Some k → ((eq_by_cmp R k x || list_any (eq_by_cmp R k) ks) ≡ true) × (pass k ≡ true)
    found_step k x ks true is rest found =
        let e : k ≡ x = sym (one x k found) in
        (ap (λ (r : Ordering). is_eq r || list_any (eq_by_cmp R k) ks) (at_itself k x e), ap pass e ∙ is)
    found_step k x ks false is rest found =
        let h = rest found in
        (ap (λ b. eq_by_cmp R k x || b) h.0 ∙ or_true (eq_by_cmp R k x), h.1)

    found_passes : (k : K) (ks : List K) → find pass ks ≡ Some k → (list_any (eq_by_cmp R k) ks ≡ true) × (pass k ≡ true)
    found_passes k [] found = absurd (cc found)
    found_passes k (x ∷ ks) found = found_step k x ks (pass x) refl (found_passes k ks) found

    behind_step : (x k y : K) (ys : List K) (t : Bool) → eq_by_cmp R k y ≡ t → R x y ≡ Less → (list_any (eq_by_cmp R k) ys ≡ true → R x k ≡ Less) → (t || list_any (eq_by_cmp R k) ys) ≡ true → R x k ≡ Less
    behind_step x k y ys true tie up rest in' = ap (R x) (same k y tie) ∙ up
    behind_step x k y ys false tie up rest in' = rest in'

    behind : {V : Type 0} (x k : K) (es : List (K × V)) → T (below_all R x es) → list_any (eq_by_cmp R k) (map (λ e. e.0) es) ≡ true → R x k ≡ Less
    behind x k [] up in' = absurd (cc in')
    behind x k (e ∷ es) up in' =
        behind_step x k e.0 (map (λ e. e.0) es) (eq_by_cmp R k e.0) refl (less (R x e.0) (first (is_lt (R x e.0)) (below_all R x es) up))
        (behind x k es (second (is_lt (R x e.0)) (below_all R x es) up)) in'

    least_step : {V : Type 0} (k q : K) (e : K × V) (es : List (K × V)) (p t : Bool) → pass e.0 ≡ p → eq_by_cmp R q e.0 ≡ t → T (below_all R e.0 es) → pass q ≡ true
        → (find pass (map (λ e. e.0) es) ≡ Some k → list_any (eq_by_cmp R q) (map (λ e. e.0) es) ≡ true → is_le (R k q) ≡ true)
        → cond p (Some e.0) (find pass (map (λ e. e.0) es)) ≡ Some k → (t || list_any (eq_by_cmp R q) (map (λ e. e.0) es)) ≡ true → is_le (R k q) ≡ true
    least_step k q e es true true is tie up passes rest found in' = ap is_le (at_itself k q (sym (one e.0 k found) ∙ sym (same q e.0 tie)))
    least_step k q e es true false is tie up passes rest found in' = ap is_le (ap (λ (x : K). R x q) (sym (one e.0 k found)) ∙ behind e.0 q es up in')
    least_step k q e es false true is tie up passes rest found in' = absurd (cc (sym passes ∙ ap pass (same q e.0 tie) ∙ is))
    least_step k q e es false false is tie up passes rest found in' = rest found in'

    least_passes : {V : Type 0} (k q : K) (es : List (K × V)) → T (is_sorted R es) → pass q ≡ true → find pass (map (λ e. e.0) es) ≡ Some k → list_any (eq_by_cmp R q) (map (λ e. e.0) es) ≡ true → is_le (R k q) ≡ true
    least_passes k q [] up passes found in' = absurd (cc found)
    least_passes k q (e ∷ es) up passes found in' =
        least_step k q e es (pass e.0) (eq_by_cmp R q e.0) refl refl (first (below_all R e.0 es) (is_sorted R es) up) passes
        (least_passes k q es (second (below_all R e.0 es) (is_sorted R es) up) passes) found in'

-- of a map
module _ {K V : Type 0} {R : K → K → Ordering} (o : IsTotalOrder R) (exact : IsAntisymmetric R) (pass : K → Bool) (m : FinMap R V) where
  -- none passes
  pub none_found : find pass (keys m) ≡ None → (k : K) → contains_key m k ≡ true → pass k ≡ false
  none_found none k there = none_passes R exact pass k (keys m) none (sym (contains_key-keys m k) ∙ there)

  module _ (k : K) (found : find pass (keys m) ≡ Some k) where
    -- it is there, and passes
    pub found_there : contains_key m k ≡ true
    found_there = contains_key-keys m k ∙ (found_passes R exact pass o k (keys m) found).0

    pub found_passing : pass k ≡ true
    found_passing = (found_passes R exact pass o k (keys m) found).1

    -- and none that passes is before it
    pub found_least : (q : K) → contains_key m q ≡ true → pass q ≡ true → is_le (R k q) ≡ true
    found_least q there passes = least_passes R exact pass o k q (entries m) (entries_sorted m) passes found (sym (contains_key-keys m q) ∙ there)
