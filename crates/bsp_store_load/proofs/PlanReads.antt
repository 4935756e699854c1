-- The entries of a plan, read of rows one after another.
use Rattle.bsp_store_base.proofs.Std.{[], ◌++◌, ◌+◌, ◌<◌, ◌∙◌, ◌∷◌, ◌≡◌, ◌≤◌, AllByRecursion, ap, append-nil, append_assoc, arith, at_drop_more, drop, drop_all, get_or, IsSomeAnd, length, List, map, None, Option, refl, Some, subst, sym, ℕ}
use Rattle.bsp_rows.proofs.MapLemmas.{same_Some}
use Rattle.bsp_store_base.specs.Columns.{placed}
use Rattle.bsp_store_load.specs.Stored.{AreReadAs}

-- what is true of each place up to the count of the values is true of theirs
places_from : {A : Type 0} (P : ℕ × A → Type 0) (most : ℕ) → ((e : ℕ × A) → e.0 < most → P e) → (before : ℕ) (xs : List A) → before + length xs < most → AllByRecursion P (placed before xs)
places_from P most so before [] few = tt
places_from P most so before (x ∷ xs) few = (so (before + 1, x) (omega arith), places_from P most so (before + 1) xs (omega arith))

pub places_fit : {A : Type 0} (P : ℕ × A → Type 0) (most : ℕ) → ((e : ℕ × A) → e.0 < most → P e) → (xs : List A) → length xs < most → AllByRecursion P (placed 0 xs)
places_fit P most so xs few = places_from P most so 0 xs (omega arith)

pub length-placed : {A : Type 0} (before : ℕ) (xs : List A) → length (placed before xs) ≡ length xs
length-placed before [] = refl
length-placed before (x ∷ xs) = let more = length-placed (before + 1) xs in omega (arith, more)

-- ---- what all rows read as, one after another

-- what was found
module _ {X : Type 0} (P : X → Type 0) (found : Option X) (it : IsSomeAnd found P) where
  pub not_none : found ≡ None → ⊥
  not_none none = subst (λ o. IsSomeAnd o P) none it

  pub found_is : (x : X) → found ≡ Some x → P x
  found_is x some = subst (λ o. IsSomeAnd o P) some it

module _ {Row V : Type 0} (is_in : V → Row → Type 0) where
  -- the rows of values, each of which reads as its value
  pub are_read : (row_of : V → Row) (P : V → Type 0) → ((v : V) → P v → is_in v (row_of v)) → (values : List V) → AllByRecursion P values → (rows : List Row) → rows ≡ map row_of values → AreReadAs is_in rows values
  are_read row_of P back values all rows same = subst (λ l. AreReadAs is_in l values) (sym same) (go values all)
    where
      go : (values : List V) → AllByRecursion P values → AreReadAs is_in (map row_of values) values
      go [] all = tt
      go (v ∷ values) all = (back v all.0, go values all.1)

  -- those of values with their places
  pub placed_read : (row_of : ℕ × V → Row) (P : V → Type 0) → ((place : ℕ) (v : V) → P v → is_in v (row_of (place, v))) → (values : List V) → AllByRecursion P values → (rows : List Row) → rows ≡ map row_of (placed 0 values) → AreReadAs is_in rows values
  placed_read row_of P back values all rows same = subst (λ l. AreReadAs is_in l values) (sym same) (go 0 values all)
    where
      go : (before : ℕ) (values : List V) → AllByRecursion P values → AreReadAs is_in (map row_of (placed before values)) values
      go before [] all = tt
      go before (v ∷ values) all = (back (before + 1) v all.0, go (before + 1) values all.1)

  -- what is left of the values, as the rows that are left read
  pub record IsReadSoFar (rows : List Row) (i : ℕ) (found values : List V) : Type 0 where
    pub rest : List V
    pub is : values ≡ found ++ rest
    pub left : AreReadAs is_in (drop i rows) rest

  none_left : (values : List V) → AreReadAs is_in [] values → values ≡ []
  none_left [] all = refl
  none_left (v ∷ values) all = absurd all

  module _ (rows : List Row) (i : ℕ) (found values : List V) (so_far : IsReadSoFar rows i found values) where
    -- all were read
    pub all_read : length rows ≤ i → found ≡ values
    all_read past =
        let none = none_left so_far.rest (subst (λ l. AreReadAs is_in l so_far.rest) (drop_all i rows past) so_far.left) in
        sym (so_far.is ∙ ap (λ l. found ++ l) none ∙ append-nil found)

    module _ (row : Row) (below : i < length rows) (at : row ≡ get_or rows i row) (o : Option V) (read : (v : V) → is_in v row → o ≡ Some v) where
      next : (rest : List V) → AreReadAs is_in (row ∷ drop (i + 1) rows) rest → (v : V) × (others : List V) × (rest ≡ v ∷ others) × (o ≡ Some v) × AreReadAs is_in (drop (i + 1) rows) others
      next [] all = absurd all
      next (v ∷ others) all = (v, others, refl, read v all.0, all.1)

      here : (v : V) × (others : List V) × (so_far.rest ≡ v ∷ others) × (o ≡ Some v) × AreReadAs is_in (drop (i + 1) rows) others
      here = next so_far.rest (subst (λ l. AreReadAs is_in l so_far.rest) (at_drop_more (λ l. l) rows i row below ∙ ap (λ r. r ∷ drop (i + 1) rows) (sym at)) so_far.left)

      -- the next does not read as nothing
      pub reads_some : o ≡ None → ⊥
      reads_some none = let some = here.3 in cc (some, none)

      pub reads_on : (x : V) (after : List V) → o ≡ Some x → after ≡ found ++ x ∷ [] → IsReadSoFar rows (i + 1) after values
      reads_on x after some is =
          let h = here in
          let value : x ≡ h.0 = same_Some x h.0 (sym some ∙ h.3) in
          record {
            rest = h.1;
            is = so_far.is ∙ ap (λ l. found ++ l) h.2 ∙ ap (λ v. found ++ v ∷ h.1) (sym value) ∙ sym (append_assoc found (x ∷ []) h.1) ∙ ap (λ l. l ++ h.1) (sym is);
            left = h.4;
          }
