-- Rows that rise by their keys.
use Rattle.bsp_store_base.proofs.Std.{[], ◌∷◌, ◌≡◌, AllByRecursion, below_all, entries, entries_sorted, FinMap, is_sorted, Less, List, map, Ordering, T}
use Rattle.bsp_maps.proofs.Orderings.{first, second, less}
use Rattle.bsp_store_base.specs.Sqlite.{IsAscending, Key, Null, Row, Term, eval_all, key_cmp}

-- what ORDER BY looks at in a row, whose rowid is left out
abbrev pub keys_of : List (Term × Key) → Row → Row
keys_of order row = eval_all (map (λ k. k.0) order) ([] ∷ (Null ∷ row) ∷ [])

-- the first row comes before the second
abbrev pub IsBefore : List (Term × Key) → Row → Row → Type 0
IsBefore order x y = key_cmp 0 (map (λ k. k.1) order) (keys_of order x) (keys_of order y) ≡ Less

module _ {K X : Type 0} (R : K → K → Ordering) where
  all_above : (k : K) (es : List (K × X)) → T (below_all R k es) → AllByRecursion (λ (e : K × X). R k e.0 ≡ Less) es
  all_above k [] h = tt
  all_above k (e ∷ es) h = (less _ (first _ _ h), all_above k es (second _ _ h))

  sorted_rise : (es : List (K × X)) → T (is_sorted R es) → IsAscending (λ (a b : K × X). R a.0 b.0 ≡ Less) es
  sorted_rise [] h = tt
  sorted_rise (e ∷ es) h = (all_above e.0 es (first _ _ h), sorted_rise es (second _ _ h))

  -- the keys of a map rise
  pub entries_rise : (m : FinMap R X) → IsAscending (λ (a b : K × X). R a.0 b.0 ≡ Less) (entries m)
  entries_rise m = sorted_rise (entries m) (entries_sorted m)

-- the rows of values that rise, where each two values of a kind have rows that rise
module _ {A B : Type 0} (Good : A → Type 0) (R : A → A → Type 0) (S : B → B → Type 0) (row_of : A → B) (step : (a b : A) → Good a → Good b → R a b → S (row_of a) (row_of b)) where
  above_first : (a : A) → Good a → (xs : List A) → AllByRecursion Good xs → AllByRecursion (R a) xs → AllByRecursion (S (row_of a)) (map row_of xs)
  above_first a good [] all up = tt
  above_first a good (x ∷ xs) all up = (step a x good all.0 up.0, above_first a good xs all.1 up.1)

  pub rows_rise : (xs : List A) → AllByRecursion Good xs → IsAscending R xs → IsAscending S (map row_of xs)
  rows_rise [] all up = tt
  rows_rise (x ∷ xs) all up = (above_first x all.0 xs all.1 up.0, rows_rise xs all.1 up.1)
