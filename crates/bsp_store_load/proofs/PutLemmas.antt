-- Entries put one after another into a map that has none are the map's.
use Rattle.bsp_store_base.proofs.Std.{[], ◌++◌, ◌+◌, ◌<◌, ◌∙◌, ◌∷◌, ◌≡◌, ◌≤◌, AllByRecursion, ap, append-nil, append_assoc, arith, at_drop_more, below_all, Bool, by_order, drop, drop_all, empty, entries, entries-insert, entries_sorted, FinMap, get_or, get_or-map, Greater, insert, is_lt, is_sorted, IsStrictlySortedBy, IsTotalOrder, keys_of, length, length-map, Less, List, map, Ordering, ordering_reverse, put, refl, same_entries_map, subst, sym, T, true, ℕ}
use Rattle.bsp_store_base.proofs.Entries.{first, less, no_entries, second}
use Rattle.bsp_store_load.specs.Loading.{MayAll, after_all}

-- ---- at the end of a map

module _ {K X : Type 0} (R : K → K → Ordering) where
  put_last : (k : K) (v : X) (es : List (K × X)) → AllByRecursion (λ y. R k y ≡ Greater) (keys_of es) → put R k v es ≡ es ++ (k, v) ∷ []
  put_last k v [] all = refl
  put_last k v (e ∷ es) all = ap (λ o. by_order o ((k, v) ∷ e ∷ es) ((e.0, v) ∷ es) (e ∷ put R k v es)) all.0 ∙ ap (λ l. e ∷ l) (put_last k v es all.1)

  -- the key of the next entry is above those before it
  above : IsTotalOrder R → (es : List (K × X)) (e : K × X) (more : List (K × X)) → IsStrictlySortedBy R (keys_of (es ++ e ∷ more)) → AllByRecursion (λ y. R e.0 y ≡ Greater) (keys_of es)
  unfolding IsStrictlySortedBy
  above o [] e more up = tt
  above o (x ∷ es) e more up = (o.antisymm e.0 x.0 ∙ ap ordering_reverse (next es up.0), above o es e more up.1)
    where
      next : (l : List (K × X)) → AllByRecursion (λ y. R x.0 y ≡ Less) (keys_of (l ++ e ∷ more)) → R x.0 e.0 ≡ Less
      next [] all = all.0
      next (y ∷ l) all = next l all.1

module _ {K X : Type 0} {R : K → K → Ordering} where
  abbrev pub inserted : FinMap R X → List (K × X) → FinMap R X
  inserted m [] = m
  inserted m (e ∷ es) = inserted (insert m e.0 e.1) es

  entries-inserted : IsTotalOrder R → (m : FinMap R X) (es : List (K × X)) → IsStrictlySortedBy R (keys_of (entries m ++ es)) → entries (inserted m es) ≡ entries m ++ es
  entries-inserted o m [] up = sym (append-nil (entries m))
  entries-inserted o m (e ∷ es) up =
      let put_is : entries (insert m e.0 e.1) ≡ entries m ++ e ∷ [] = entries-insert o m e.0 e.1 ∙ put_last R e.0 e.1 (entries m) (above R o (entries m) e es up) in
      let moved : entries (insert m e.0 e.1) ++ es ≡ entries m ++ e ∷ es = ap (λ l. l ++ es) put_is ∙ append_assoc (entries m) (e ∷ []) es in
      entries-inserted o (insert m e.0 e.1) es (subst (λ l. IsStrictlySortedBy R (keys_of l)) (sym moved) up) ∙ moved

module _ {K V : Type 0} (R : K → K → Ordering) where
  all_below : (x : K) (es : List (K × V)) → T (below_all R x es) → AllByRecursion (λ y. R x y ≡ Less) (keys_of es)
  all_below x [] up = tt
  all_below x (e ∷ es) up = (less (R x e.0) (first (is_lt (R x e.0)) (below_all R x es) up), all_below x es (second (is_lt (R x e.0)) (below_all R x es) up))

  -- sorted entries rise by their keys
  pub strictly : (es : List (K × V)) → T (is_sorted R es) → IsStrictlySortedBy R (keys_of es)
  unfolding IsStrictlySortedBy
  strictly [] up = tt
  strictly (e ∷ es) up = (all_below e.0 es (first (below_all R e.0 es) (is_sorted R es) up), strictly es (second (below_all R e.0 es) (is_sorted R es) up))

module _ {K X : Type 0} {R : K → K → Ordering} (o : IsTotalOrder R) where
  -- a map is made of its entries
  pub inserted_all : (m : FinMap R X) → inserted empty (entries m) ≡ m
  inserted_all m =
      let none : entries (empty {X = X} {R = R}) ≡ [] = no_entries R in
      let up : IsStrictlySortedBy R (keys_of (entries (empty {X = X} {R = R}) ++ entries m)) = subst (λ l. IsStrictlySortedBy R (keys_of (l ++ entries m))) (sym none) (strictly R (entries m) (entries_sorted m)) in
      same_entries_map _ _ (entries-inserted o empty (entries m) up ∙ ap (λ l. l ++ entries m) none)

-- ---- one entry after another

module _ {E R : Type 0} (row_of : E → R) where
  -- the next row is that of the next entry
  pub record IsNext (es : List E) (i : ℕ) (row : R) : Type 0 where
    pub entry : E
    pub rest : drop i es ≡ entry ∷ drop (i + 1) es
    pub is : row ≡ row_of entry

  pub next_is : (es : List E) (rows : List R) (i : ℕ) (row : R) → rows ≡ map row_of es → i < length rows → row ≡ get_or rows i row → IsNext es i row
  next_is [] rows i row same below at = absurd (omega (arith, ap length same))
  next_is (e ∷ es) rows i row same below at =
      let long : length rows ≡ length (e ∷ es) = ap length same ∙ length-map (e ∷ es) row_of in
      let within : i < length (e ∷ es) = omega (arith, long) in
      record {
        entry = get_or (e ∷ es) i e;
        rest = at_drop_more (λ l. l) (e ∷ es) i e within;
        is = at ∙ ap (λ l. get_or l i row) same ∙ get_or-map row_of (e ∷ es) i e row within;
      }

-- ---- a loop over rows that puts each

module _ {E W R : Type 0} (row_of : E → R) (step : E → W → W) (may : E → W → Type 0) where
  -- the entries from here on may be put, and make of the whole what all make of the first
  pub record Goes (es : List E) (i : ℕ) (first now : W) : Type 0 where
    pub left : MayAll step may (drop i es) now
    pub same : after_all step (drop i es) now ≡ after_all step es first

  pub begun : (es : List E) (first : W) → MayAll step may es first → Goes es 0 first first
  begun es first all = record { left = all; same = refl }

  -- the next row is put
  pub gone_on : (es : List E) (rows : List R) (i : ℕ) (row : R) (first now next : W) (done : Bool) → rows ≡ map row_of es → i < length rows → row ≡ get_or rows i row → Goes es i first now
      → ((e : E) → may e now → row ≡ row_of e → (done ≡ true) × (next ≡ step e now)) → (done ≡ true) × Goes es (i + 1) first next
  gone_on es rows i row first now next done same below at goes put =
      let n = next_is row_of es rows i row same below at in
      let left : may n.entry now × MayAll step may (drop (i + 1) es) (step n.entry now) = subst (λ l. MayAll step may l now) n.rest goes.left in
      let it = put n.entry left.0 n.is in (
        it.0,
        record {
          left = subst (MayAll step may (drop (i + 1) es)) (sym it.1) left.1;
          same = ap (after_all step (drop (i + 1) es)) it.1 ∙ ap (λ l. after_all step l now) (sym n.rest) ∙ goes.same;
        },
      )

  -- all rows are put
  pub all_gone : (es : List E) (rows : List R) (i : ℕ) (first now : W) → rows ≡ map row_of es → length rows ≤ i → Goes es i first now → now ≡ after_all step es first
  all_gone es rows i first now same past goes =
      let long : length rows ≡ length es = ap length same ∙ length-map es row_of in
      ap (λ l. after_all step l now) (sym (drop_all i es (omega (arith, long)))) ∙ goes.same
