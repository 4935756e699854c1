-- A query over one table, read through a view of its rows.
use Rattle.std.proofs.Common.{◌≡◌, ℕ, ℤ, List, [], ◌∷◌, map, filter, Bool, true, false, not, ◌||◌, cond, inl, inr, refl, sym, ap, ◌∙◌, subst, subst₂, true≢false, Ordering, Less, Equal, Greater, is_eq, IsPermutation, ap₂}
use Rattle.bsp_store_base.proofs.Std.{AllByRecursion, cases_Bool, flat_map, IsPermutation-cons, IsPermutation-map, IsPermutation-middle, IsPermutation-refl, IsPermutation-sym, IsPermutation-trans, list_all, list_any, list_any-IsPermutation}
use Rattle.std.proofs.lemmas.Cmp.{tied_itself}
use Rattle.bsp_store_base.specs.Sqlite.{IsAnswer, IsAscending, IsTable, Key, Null, Output, Query, Row, Term, Trees, has_rowid, holds, id_in, is_int, is_taken, output, output_cmp, put_row, rowid, value_cmp, without_all, without_rowid}
use Rattle.bsp_store_base.proofs.Sqlite.{all-filter, all_both, all_of, all_weaker, filter-map, filter_all, filter_same, IsPermutation-filter, map-map, value_cmp_total}
use Rattle.sqlite_sql.proofs.QueryLemmas.{output_cmp_total}
use Rattle.sqlite_rules.proofs.TableLemmas.{int_is}
pub use Rattle.bsp_store_base.specs.Simple.{simple}
use Rattle.sqlite_keyed.proofs.SortLemmas.{sorted_unique}

flat_map_if : {A B : Type 0} (p : A → Bool) (f : A → B) (xs : List A) → flat_map (λ x. cond (p x) (f x ∷ []) []) xs ≡ map f (filter p xs)
flat_map_if p f [] = refl
flat_map_if p f (x ∷ xs) = let more = flat_map_if p f xs in elim (cases_Bool (p x)) [ inl e ↦ rw (e, more) refl | inr e ↦ rw (e, more) refl ]

module _ (t : ℕ) (test project : List Term) (order : List (Term × Key)) (trees : Trees) (params : Row) where
  abbrev query : Query
  query = simple t test project order

  abbrev pub passes : Row → Bool
  passes r = list_all (holds (params ∷ r ∷ [])) test

  abbrev pub out : Row → Output
  out r = output query (params ∷ r ∷ [])

  module _ (rows : List Row) (a : IsAnswer query trees params rows) where
    staged_is : a.staged ≡ map (λ r. params ∷ r ∷ []) (filter passes (trees t))
    staged_is = a.grouped ∙ flat_map_if passes (λ r. params ∷ r ∷ []) (trees t)

    kept_is : a.kept ≡ map out (filter passes (trees t))
    kept_is = a.distinct ∙ ap (map (output query)) staged_is ∙ map-map (output query) (λ r. params ∷ r ∷ []) (filter passes (trees t))

    -- in any order
    pub rows_are : (xs : List Output) → IsPermutation xs (map out (filter passes (trees t))) → IsPermutation (map (λ o. o.1) xs) rows
    rows_are xs same =
        subst (IsPermutation (map (λ o. o.1) xs)) (sym a.shown) (IsPermutation-map (λ (o : Output). o.1) xs a.ordered (IsPermutation-trans _ _ _ same (subst (λ k. IsPermutation k a.ordered) kept_is a.same)))

    -- in the one order that ORDER BY allows
    pub rows_in_order : (xs : List Output) → IsAscending (λ x y. output_cmp query x y ≡ Less) xs → IsPermutation xs (map out (filter passes (trees t))) → rows ≡ map (λ o. o.1) xs
    rows_in_order xs up same =
        a.shown ∙ ap (map (λ (o : Output). o.1)) (sorted_unique (output_cmp query) (output_cmp_total query) xs a.ordered up (IsPermutation-trans _ _ _ same (subst (λ k. IsPermutation k a.ordered) kept_is a.same)) a.sorted)

-- what a test and a function see of the rows of a table, which look at no more of a row than `see`
module _ {A B : Type 0} (see : Row → Row) (row_of : A → Row) (p : Row → Bool) (q : A → Bool) (f : Row → B) (g : A → B)
    (tests : (r : Row) → p r ≡ p (Null ∷ see r)) (maps : (r : Row) → f r ≡ f (Null ∷ see r))
    (test_is : (a : A) → p (Null ∷ row_of a) ≡ q a) (map_is : (a : A) → f (Null ∷ row_of a) ≡ g a) where
  abbrev bare_test : Row → Bool
  bare_test row = p (Null ∷ row)

  abbrev bare_map : Row → B
  bare_map row = f (Null ∷ row)

  viewed : {X : Type 0} (view : X → Row) (xs : List X) → map bare_map (filter bare_test (map view xs)) ≡ map (λ x. bare_map (view x)) (filter (λ x. bare_test (view x)) xs)
  viewed view xs = ap (map bare_map) (filter-map bare_test view xs) ∙ map-map bare_map view (filter (λ x. bare_test (view x)) xs)

  pub seen : (xs : List A) (rows : List Row) → IsPermutation (map row_of xs) (map see rows) → IsPermutation (map g (filter q xs)) (map f (filter p rows))
  seen xs rows same =
      let values : map bare_map (filter bare_test (map row_of xs)) ≡ map g (filter q xs) = viewed row_of xs ∙ λ i. map (λ x. map_is x i) (filter (λ x. test_is x i) xs) in
      let shown : map bare_map (filter bare_test (map see rows)) ≡ map f (filter p rows) = viewed see rows ∙ sym (λ i. map (λ r. maps r i) (filter (λ r. tests r i) rows)) in
      subst₂ IsPermutation values shown (IsPermutation-map bare_map _ _ (IsPermutation-filter bare_test _ _ same))

-- a row that is put at a free rowid
pub put_fresh : (new : Row) (rows : List Row) → is_taken rows new ≡ false → IsPermutation (new ∷ rows) (put_row new rows)
put_fresh new [] free = IsPermutation-refl _
put_fresh new (r ∷ rows) free = go (value_cmp (rowid r) (rowid new)) free (put_fresh new rows)
  where
    go : (o : Ordering) → (is_eq o || is_taken rows new) ≡ false → (is_taken rows new ≡ false → IsPermutation (new ∷ rows) (put_row new rows)) → IsPermutation (new ∷ r ∷ rows) (Rattle.std.specs.Ordering.match_ordering o (r ∷ put_row new rows) (new ∷ rows) (new ∷ r ∷ rows))
    go Less none more = IsPermutation-trans _ _ _ (IsPermutation-sym _ _ (IsPermutation-middle (r ∷ []) new rows)) (IsPermutation-cons r _ _ (more none))
    go Equal none more = absurd (true≢false none)
    go Greater none more = IsPermutation-refl _

-- ---- rows taken out by their rowids

abbrev same_id : Row → Row → Bool
same_id r x = is_eq (value_cmp (rowid r) (rowid x))

abbrev Keyed : List Row → Type 0
Keyed = AllByRecursion (λ r. is_int (rowid r) ≡ true)

not_above : (y : Row) (ys : List Row) (p : Row → Bool) → AllByRecursion (λ z. value_cmp (rowid y) (rowid z) ≡ Less) ys → list_any (same_id y) (filter p ys) ≡ false
not_above y [] p up = refl
not_above y (z ∷ ys) p up = let more = not_above y ys p up.1 in elim (cases_Bool (p z)) [ inl e ↦ rw (e, up.0, more) refl | inr e ↦ rw (e, more) refl ]

-- each row of a table is among those that pass exactly where it passes
found_again : (p : Row → Bool) (rows : List Row) → IsTable rows → AllByRecursion (λ r. list_any (same_id r) (filter p rows) ≡ p r) rows
found_again p [] up = tt
found_again p (y ∷ ys) up = (first (p y) refl, all_both _ _ _ (λ r below more. later r below more (p y)) ys up.0 (found_again p ys up.1))
  where
    first : (b : Bool) → p y ≡ b → list_any (same_id y) (cond b (y ∷ filter p ys) (filter p ys)) ≡ b
    first true e = rw (tied_itself value_cmp_total (rowid y))
    first false e = not_above y ys p up.0

    later : (r : Row) → value_cmp (rowid y) (rowid r) ≡ Less → list_any (same_id r) (filter p ys) ≡ p r → (b : Bool) → list_any (same_id r) (cond b (y ∷ filter p ys) (filter p ys)) ≡ p r
    later r below more true = rw (value_cmp_total.antisymm (rowid r) (rowid y), below) more
    later r below more false = more

abbrev ids_in : List Row → List ℤ
ids_in = map (λ r. id_in (rowid r))

has_ids : (r : Row) (gone : List Row) → Keyed gone → list_any (λ id. has_rowid id r) (ids_in gone) ≡ list_any (same_id r) gone
has_ids r [] keyed = refl
has_ids r (x ∷ gone) keyed = ap₂ ◌||◌ (ap (λ v. is_eq (value_cmp (rowid r) v)) (sym (int_is (rowid x) keyed.0))) (has_ids r gone keyed.1)

filter_twice : {A : Type 0} (p q : A → Bool) (xs : List A) → filter (λ x. not (p x)) (filter (λ x. not (q x)) xs) ≡ filter (λ x. not (q x || p x)) xs
filter_twice p q [] = refl
filter_twice p q (x ∷ xs) = let more = filter_twice p q xs in elim (cases_Bool (q x)) [
  | inl gone ↦ rw (gone, more) refl
  | inr left ↦ elim (cases_Bool (p x)) [ inl e ↦ rw (left, e, more) refl | inr e ↦ rw (left, e, more) refl ]
]

without_all-filter : (ids : List ℤ) (rows : List Row) → without_all rows ids ≡ filter (λ r. not (list_any (λ id. has_rowid id r) ids)) rows
without_all-filter [] rows = sym (filter_all _ rows (all_of _ (λ r. refl) rows))
without_all-filter (id ∷ ids) rows = without_all-filter ids (without_rowid id rows) ∙ filter_twice (λ r. list_any (λ i. has_rowid i r) ids) (has_rowid id) rows

-- the rows that pass, found in any order and taken out by their rowids
pub taken_out : (p : Row → Bool) (rows : List Row) (ids : List ℤ) → IsTable rows → Keyed rows → IsPermutation (ids_in (filter p rows)) ids → without_all rows ids ≡ filter (λ r. not (p r)) rows
taken_out p rows ids table keyed same =
    without_all-filter ids rows
    ∙ filter_same _ _ rows (all_weaker _ _ (λ r e. ap not (sym (list_any-IsPermutation (λ id. has_rowid id r) _ ids same) ∙ has_ids r (filter p rows) (all-filter _ p rows keyed) ∙ e)) rows (found_again p rows table))
