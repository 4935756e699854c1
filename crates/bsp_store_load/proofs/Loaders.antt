-- A table whose rows are put into memory as the entries of a map: what is known of it, and of a call that puts its rows.
use Rattle.bsp_store_base.proofs.Std.{[], ◌++◌, ◌∙◌, ◌∷◌, ◌≡◌, AllByRecursion, ap, append-nil, below_all, cond, empty, entries, entries_sorted, FinMap, get, get-empty, get-insert, Greater, insert, is_eq, is_lt, is_sorted, IsPermutation, IsPermutation-trans, IsTotalOrder, Less, List, map, None, Option, Ordering, ordering_reverse, refl, Some, subst, sym, T}
use Rattle.bsp_store_base.proofs.Sqlite.{Row, Trees}
use Rattle.bsp_store_base.proofs.Base.{columns_of, Content, form, IsFormed, KeepsRows, Part, width_of}
use Rattle.bsp_store_load.specs.Loading.{IsLoaded, LeavesRow, MayAll, after_all, and_after}
use Rattle.bsp_store_load.proofs.PutLemmas.{inserted, inserted_all}
use Rattle.bsp_store_base.proofs.Entries.{first, less, no_entries, second}

-- ---- the entries of a map, put into rows that have none

module _ {K V : Type 0} {R : K → K → Ordering} (o : IsTotalOrder R) where
  -- a key above one that is put has none still
  still_none : (m : FinMap R V) (k q : K) (v : V) → R k q ≡ Less → get m q ≡ None → get (insert m k v) q ≡ None
  still_none m k q v up none =
      let above : R q k ≡ Greater = o.antisymm q k ∙ ap ordering_reverse up in
      get-insert o m k v q ∙ ap (λ r. cond (is_eq r) (Some v) (get m q)) above ∙ none

  none_above : (m : FinMap R V) (k : K) (v : V) (es : List (K × V)) → T (below_all R k es) → AllByRecursion (λ e. get m e.0 ≡ None) es → AllByRecursion (λ e. get (insert m k v) e.0 ≡ None) es
  none_above m k v [] up none = tt
  none_above m k v (e ∷ es) up none =
      (still_none m k e.0 v (less (R k e.0) (first (is_lt (R k e.0)) (below_all R k es) up)) none.0, none_above m k v es (second (is_lt (R k e.0)) (below_all R k es) up) none.1)

  none_in : (m : FinMap R V) → m ≡ empty → (es : List (K × V)) → AllByRecursion (λ e. get m e.0 ≡ None) es
  none_in m none [] = tt
  none_in m none (e ∷ es) = (ap (λ n. get n e.0) none ∙ get-empty R e.0, none_in m none es)

  module _ {W : Type 0} (of : W → FinMap R V) (step : K × V → W → W) (fits : K × V → Type 0) (lacks : K × V → W → Type 0)
      (steps : (e : K × V) (w : W) → fits e → of (step e w) ≡ insert (of w) e.0 e.1) (free : (e : K × V) (w : W) → fits e → get (of w) e.0 ≡ None → lacks e w) where
    all_may : (es : List (K × V)) (w : W) → T (is_sorted R es) → AllByRecursion fits es → AllByRecursion (λ e. get (of w) e.0 ≡ None) es → MayAll step (λ e v. fits e × lacks e v) es w
    all_may [] w up fit none = tt
    all_may (e ∷ es) w up fit none = (
      (fit.0, free e w fit.0 none.0),
      all_may es (step e w) (second (below_all R e.0 es) (is_sorted R es) up) fit.1
          (subst (λ m. AllByRecursion (λ f. get m f.0 ≡ None) es) (sym (steps e w fit.0)) (none_above (of w) e.0 e.1 es (first (below_all R e.0 es) (is_sorted R es) up) none.1)),
    )

pub record Loader (K V W : Type 0) (R : K → K → Ordering) (fits : K × V → Type 0) (lacks : K × V → W → Type 0) : Type 0 where
  pub total : IsTotalOrder R
  pub part : Part Content
  pub row_of : K × V → Row
  pub step : K × V → W → W
  -- the map in memory, and that of a content
  pub of : W → FinMap R V
  pub with : FinMap R V → W → W
  pub in_content : Content → FinMap R V
  pub steps : (e : K × V) (rows : W) → fits e → of (step e rows) ≡ insert (of rows) e.0 e.1
  pub free : (e : K × V) (rows : W) → fits e → get (of rows) e.0 ≡ None → lacks e rows
  pub alone : (e : K × V) (rows : W) → step e rows ≡ with (of (step e rows)) rows
  pub with_of : (rows : W) → with (of rows) rows ≡ rows
  pub with_with : (m n : FinMap R V) (rows : W) → with m (with n rows) ≡ with m rows
  pub rows_are : (c : Content) → part.rows c ≡ map row_of (entries (in_content c))

module _ {K V W : Type 0} {R : K → K → Ordering} {fits : K × V → Type 0} {lacks : K × V → W → Type 0} (t : Loader K V W R fits lacks) where
  abbrev pub rows_in : W → List Row
  rows_in rows = map t.row_of (entries (t.of rows))

  -- what a call for the table ensures
  abbrev pub Loads : Trees → W → W → Option Row → Type 0
  Loads = IsLoaded t.part t.row_of t.step fits lacks rows_in

  abbrev pub Leaves : Trees → W → W → Type 0
  Leaves = LeavesRow t.part t.row_of t.step fits lacks rows_in

  -- no other table is changed
  changes : (es : List (K × V)) (rows : W) → after_all t.step es rows ≡ t.with (t.of (after_all t.step es rows)) rows
  changes [] rows = sym (t.with_of rows)
  changes (e ∷ es) rows =
      let last = t.of (after_all t.step es (t.step e rows)) in
      changes es (t.step e rows) ∙ ap (t.with last) (t.alone e rows) ∙ t.with_with last (t.of (t.step e rows)) rows

  -- entries one after another are inserted
  inserts : (es : List (K × V)) (rows : W) → AllByRecursion fits es → t.of (after_all t.step es rows) ≡ inserted (t.of rows) es
  inserts [] rows fit = refl
  inserts (e ∷ es) rows fit = inserts es (t.step e rows) fit.1 ∙ ap (λ m. inserted m es) (t.steps e rows fit.0)

  module _ (trees : Trees) (old new : W) (left : Option Row) (loaded : Loads trees old new left) where
    pub others : new ≡ t.with (t.of new) old
    others = let made = loaded.made in made.1 ∙ changes made.0 old ∙ ap (λ r. t.with (t.of r) old) (sym made.1)

    module _ (none : t.of old ≡ empty) where
      -- all rows of the table are in memory
      pub rows_here : left ≡ None → IsPermutation (map (columns_of (width_of t.part.tree)) (trees t.part.tree)) (rows_in new)
      rows_here end =
          let bare : rows_in old ≡ [] = ap (map t.row_of) (ap entries none ∙ no_entries R) in
          let put = subst (λ l. IsPermutation l (rows_in new)) (ap (λ l. loaded.before ++ l) bare ∙ append-nil loaded.before) loaded.put in
          let whole : loaded.before ++ and_after left loaded.after ≡ loaded.before = ap (λ o. loaded.before ++ and_after o loaded.after) end ∙ append-nil loaded.before in
          IsPermutation-trans _ _ _ (subst (IsPermutation _) whole loaded.are.in_any_order) put

      -- where the trees keep a content, its map is put whole
      pub whole_here : (c : Content) → IsFormed c → KeepsRows form c trees → AllByRecursion fits (entries (t.in_content c)) → (left ≡ None) × (new ≡ t.with (t.in_content c) old)
      whole_here c formed keeps fit =
          let m = t.in_content c in
          let it = loaded.entries (entries m) (all_may t.total t.of t.step fits lacks t.steps t.free (entries m) old (entries_sorted m) fit (none_in t.total (t.of old) none (entries m))) (loaded.are.in_order c formed keeps ∙ t.rows_are c) in
          let is : t.of new ≡ m = ap t.of it.1 ∙ inserts (entries m) old fit ∙ ap (λ n. inserted n (entries m)) none ∙ inserted_all t.total m in
          (it.0, it.1 ∙ changes (entries m) old ∙ ap (λ r. t.with (t.of r) old) (sym it.1) ∙ ap (λ n. t.with n old) is)
