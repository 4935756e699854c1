-- Each value of a map changed, value by value.
use Rattle.std.proofs.Common.{◌≡◌, ◌⊎◌, Bool, true, false, cond, List, [], ◌∷◌, map, Option, Some, None, option_map, refl, sym, ap, subst, ◌∙◌, inl, inr, Ordering}
use Rattle.std.specs.List.{Contains, filter}
use Rattle.std.specs.Ordering.{eq_by_cmp, is_eq}
use Rattle.std.specs.Cmp.{IsTotalOrder, tied_itself}
use Rattle.std.specs.FinMap.{FinMap, IsAntisymmetric, entries, entries_sorted, get, insert, same_map, values}
use Rattle.std.specs.FinMap.Entries.{below_all, is_sorted}
use Rattle.std.proofs.lemmas.Bool.{and_parts, both_ways}
use Rattle.std.proofs.lemmas.Map.Made.{Contains-values_of}
use Rattle.bsp_calendar.proofs.ListLemmas.{contains_cases, contains_filter, contains_head, contains_none, contains_tail, filter_contains}
use Rattle.bsp_rows.specs.Changes.{each}
use Rattle.bsp_rows.specs.Writes.{changed}
use Rattle.bsp_rows.proofs.MapLemmas.{apart, below_contains, entry_get, get_entry, get_other, get_written, is_true, same_Some, same_key}
use Rattle.bsp_rows.proofs.PartLemmas.{changed_some, each_get, sorted_filter}
use Rattle.bsp_rows.proofs.RowLemmas.{mapped}

-- a change that, made again, changes nothing
module _ {K X : Type 0} {R : K → K → Ordering} (o : IsTotalOrder R) (exact : IsAntisymmetric R) (key : X → K) (f : X → X) (again : (x : X) → f (f x) ≡ f x) where
  abbrev pub entry : X → K × X
  entry x = (key x, x)

  -- the values of the list are at their keys and are left to be changed; no other value needs the change
  pub record IsLeft (m : FinMap R X) (xs : List X) : Type 0 where
    pub sorted : is_sorted R (map entry xs) ≡ true
    pub there : (x : X) → Contains xs x → get m (key x) ≡ Some x
    pub rest : (k : K) (x : X) → get m k ≡ Some x → (f x ≡ x) ⊎ Contains (map key xs) k

  -- ---- none is left

  unchanged_at : (m : FinMap R X) → IsLeft m [] → (q : K) (found : Option X) → get m q ≡ found → option_map f found ≡ found
  unchanged_at m l q None is = refl
  unchanged_at m l q (Some x) is = elim (l.rest q x is) [
    | inl same ↦ ap (λ (y : X). Some y) same
    | inr in' ↦ contains_none q in'
  ]

  pub none_left : (m : FinMap R X) → IsLeft m [] → each f m ≡ m
  none_left m l = same_map o exact _ _ (λ q. each_get o exact f m q ∙ unchanged_at m l q (get m q) refl)

  -- ---- one is changed

  module _ (m : FinMap R X) (x : X) (xs : List X) (l : IsLeft m (x ∷ xs)) where
    abbrev next : FinMap R X
    next = insert m (key x) (f x)

    at_key : get m (key x) ≡ Some x
    at_key = l.there x (contains_head x xs)

    next_there : (y : X) → Contains xs y → get next (key y) ≡ Some y
    next_there y in' =
        let below = (and_parts (below_all R (key x) (map entry xs)) (is_sorted R (map entry xs)) l.sorted).0 in
        let after = below_contains o exact (key x) (map entry xs) (entry y) below (mapped entry xs y in') in
        get_other o exact m (key x) (key y) (f x) (apart o (key x) (key y) after) ∙ l.there y (contains_tail x xs y in')

    not_key : (k : K) → eq_by_cmp R k (key x) ≡ false → Contains (map key (x ∷ xs)) k → Contains (map key xs) k
    not_key k other in' = elim (contains_cases (key x) (map key xs) k in') [
      | inl here ↦ absurd (both_ways _ other (ap (eq_by_cmp R k) here ∙ ap is_eq (tied_itself o k)))
      | inr there ↦ there
    ]

    next_rest : (k : K) (y : X) → get next k ≡ Some y → (b : Bool) → eq_by_cmp R k (key x) ≡ b → (f y ≡ y) ⊎ Contains (map key xs) k
    next_rest k y at true same =
        let value : f x ≡ y = same_Some (f x) y (sym (get_written o exact m (key x) (f x)) ∙ (ap (get next) (sym (same_key exact k (key x) same)) ∙ at)) in
        inl (ap f (sym value) ∙ (again x ∙ value))
    next_rest k y at false other = elim (l.rest k y (sym (get_other o exact m (key x) k (f x) other) ∙ at)) [
      | inl same ↦ inl same
      | inr in' ↦ inr (not_key k other in')
    ]

    next_each : (q : K) (b : Bool) → eq_by_cmp R q (key x) ≡ b → option_map f (get next q) ≡ option_map f (get m q)
    next_each q true same =
        let is : q ≡ key x = same_key exact q (key x) same in
        ap (λ k. option_map f (get next k)) is
        ∙ (ap (option_map f) (get_written o exact m (key x) (f x))
        ∙ (ap (λ (y : X). Some y) (again x)
        ∙ (ap (option_map f) (sym at_key) ∙ ap (λ k. option_map f (get m k)) (sym is))))
    next_each q false other = ap (option_map f) (get_other o exact m (key x) q (f x) other)

    next_left : IsLeft next xs
    next_left = record {
      sorted = (and_parts (below_all R (key x) (map entry xs)) (is_sorted R (map entry xs)) l.sorted).1;
      there = next_there;
      rest = λ k y at. next_rest k y at (eq_by_cmp R k (key x)) refl;
    }

    changed_is : next ≡ changed f (key x) m
    changed_is = sym (changed_some o exact f (key x) m x at_key)

    pub changed_left : IsLeft (changed f (key x) m) xs
    changed_left = subst (λ (n : FinMap R X). IsLeft n xs) changed_is next_left

    pub changed_each : each f (changed f (key x) m) ≡ each f m
    changed_each =
        ap (each f) (sym changed_is)
        ∙ same_map o exact _ _ (λ q. each_get o exact f next q ∙ (next_each q (eq_by_cmp R q (key x)) refl ∙ sym (each_get o exact f m q)))

    pub left_there : get m (key x) ≡ Some x
    left_there = at_key

  -- ---- all are left

  listed_step : (test : X → Bool) (e : K × X) (es : List (K × X)) → key e.1 ≡ e.0 → map entry (filter test (map (λ d. d.1) es)) ≡ filter (λ d. test d.1) es → (b : Bool) →
      map entry (cond b (e.1 ∷ filter test (map (λ d. d.1) es)) (filter test (map (λ d. d.1) es))) ≡ cond b (e ∷ filter (λ d. test d.1) es) (filter (λ d. test d.1) es)
  listed_step test e es keyed rest true = λ i. (keyed i, e.1) ∷ rest i
  listed_step test e es keyed rest false = rest

  listed : (test : X → Bool) (es : List (K × X)) → ((e : K × X) → Contains es e → key e.1 ≡ e.0) → map entry (filter test (map (λ d. d.1) es)) ≡ filter (λ d. test d.1) es
  listed test [] keyed = refl
  listed test (e ∷ es) keyed = listed_step test e es (keyed e (contains_head e es)) (listed test es (λ d in'. keyed d (contains_tail e es d in'))) (test e.1)

  module _ (test : X → Bool) (m : FinMap R X) (keyed : (k : K) (x : X) → get m k ≡ Some x → key x ≡ k) (others : (x : X) → test x ≡ false → f x ≡ x) where
    of_entries : map entry (filter test (values m)) ≡ filter (λ e. test e.1) (entries m)
    of_entries = listed test (entries m) (λ e in'. keyed e.0 e.1 (entry_get o exact m e.0 e.1 in'))

    passed_there : (x : X) → Contains (filter test (values m)) x → get m (key x) ≡ Some x
    passed_there x in' =
        let among : Contains (filter (λ (e : K × X). test e.1) (entries m)) (entry x) = subst (λ (es : List (K × X)). Contains es (entry x)) of_entries (mapped entry (filter test (values m)) x in') in
        entry_get o exact m (key x) x (filter_contains (λ (e : K × X). test e.1) (entries m) (entry x) among)

    passed_rest : (k : K) (x : X) → get m k ≡ Some x → (b : Bool) → test x ≡ b → (f x ≡ x) ⊎ Contains (map key (filter test (values m))) k
    passed_rest k x at true holds =
        let among = contains_filter test (values m) x (Contains-values_of (entries m) k x (get_entry o exact m k x at)) holds in
        inr (subst (Contains (map key (filter test (values m)))) (keyed k x at) (mapped key (filter test (values m)) x among))
    passed_rest k x at false fails = inl (others x fails)

    -- those that pass a test, of a map whose values are at their keys
    pub passed_left : IsLeft m (filter test (values m))
    passed_left = record {
      sorted = subst (λ (es : List (K × X)). is_sorted R es ≡ true) (sym of_entries) (sorted_filter R (λ (e : K × X). test e.1) (entries m) (is_true _ (entries_sorted m)));
      there = passed_there;
      rest = λ k x at. passed_rest k x at (test x) refl;
    }
