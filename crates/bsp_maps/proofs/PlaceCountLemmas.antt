-- Counts of rows, and what a written row makes of them.
use Rattle.std.proofs.Common.{◌≡◌, T, ℕ, ◌+◌, ◌-◌, ◌≤◌, Bool, true, false, cond, List, [], ◌∷◌, length, refl, sym, ap, ◌∙◌, arith, Ordering, Less, Equal, Greater, Option, Some, None}
use Rattle.std.specs.Prelude.{option_map, sum_by, unwrap_or}
use Rattle.std.specs.Option.{option_cmp}
use Rattle.std.specs.Ordering.{eq_by_cmp, is_eq, is_lt}
use Rattle.std.specs.Cmp.{IsTotalOrder, alike_right}
use Rattle.std.specs.FinMap.{FinMap, IsAntisymmetric, empty, entries, entries-insert, entries_sorted, get, get-empty, get-entries, get-insert, insert, len-empty, len-entries}
use Rattle.std.specs.FinMap.Entries.{below_all, by_order, find, is_sorted, put}
use Rattle.std.proofs.lemmas.Bool.{and_parts}
use Rattle.std.proofs.lemmas.List.Sums.{sum_by-cons}
use Rattle.bsp_maps.specs.Counts.{AreCounted, HasCounted, IsRecounted, count_at, ones, row_count, with_one, without_one}
use Rattle.bsp_maps.specs.Indexes.{is_place}
use Rattle.bsp_maps.proofs.EntryLemmas.{tied}

-- ---- one row more or less at a place

module _ {P : Type 0} (RP : P → P → Ordering) (op : IsTotalOrder RP) (exact : IsAntisymmetric RP) where
  written_at : (counts : FinMap RP ℕ) (q : P) (n : ℕ) (p : P) → count_at (insert counts q n) p ≡ unwrap_or (cond (eq_by_cmp RP p q) (Some n) (get counts p)) 0
  written_at counts q n p = ap (λ (w : Option ℕ). unwrap_or w 0) (get-insert op counts q n p)

  more : (b : Bool) (here : Option ℕ) (count : ℕ) → (b ≡ true → unwrap_or here 0 ≡ count) → unwrap_or (cond b (Some (count + 1)) here) 0 ≡ unwrap_or here 0 + ones b
  more true here count same = let e : unwrap_or here 0 ≡ count = same refl in omega (arith, e)
  more false here count same = omega arith

  less : (b : Bool) (here : Option ℕ) (count : ℕ) → (b ≡ true → unwrap_or here 0 ≡ count) → ones b ≤ unwrap_or here 0 → unwrap_or (cond b (Some (count - 1)) here) 0 + ones b ≡ unwrap_or here 0
  less true here count same has = let e : unwrap_or here 0 ≡ count = same refl in omega (arith, e, has)
  less false here count same has = omega arith

  same_count : (counts : FinMap RP ℕ) (q p : P) → eq_by_cmp RP p q ≡ true → count_at counts p ≡ count_at counts q
  same_count counts q p tie = ap (count_at counts) (exact p q (tied (RP p q) tie))

  raised : (q : P) (counts : FinMap RP ℕ) (p : P) → count_at (with_one q counts) p ≡ count_at counts p + ones (is_place RP (Some q) p)
  raised q counts p = written_at counts q (count_at counts q + 1) p ∙ more (eq_by_cmp RP p q) (get counts p) (count_at counts q) (same_count counts q p)

  lowered : (from : Option P) (counts : FinMap RP ℕ) → HasCounted RP from counts → (p : P) → count_at (without_one from counts) p + ones (is_place RP from p) ≡ count_at counts p
  lowered None counts has p = omega arith
  lowered (Some q) counts has p = ap (λ n. n + ones (eq_by_cmp RP p q)) (written_at counts q (count_at counts q - 1) p) ∙ less (eq_by_cmp RP p q) (get counts p) (count_at counts q) (same_count counts q p) (has p)

  -- a row that was counted at one place is counted at another
  pub recounted : (from : Option P) (to : P) (old : FinMap RP ℕ) → HasCounted RP from old → IsRecounted RP from to old (with_one to (without_one from old))
  recounted from to old has p =
      let up = raised to (without_one from old) p in
      let down = lowered from old has p in
      omega (arith, up, down)

  alike : (from : Option P) (to : P) → option_cmp RP from (Some to) ≡ Equal → (p : P) → is_place RP from p ≡ is_place RP (Some to) p
  alike None to same p = absurd (cc)
  alike (Some q) to same p = ap is_eq (alike_right op q to p same)

  -- or is counted there already
  pub uncounted : (from : Option P) (to : P) (old : FinMap RP ℕ) → option_cmp RP from (Some to) ≡ Equal → IsRecounted RP from to old old
  uncounted from to old same p = ap (λ b. count_at old p + ones b) (alike from to same p)

-- ---- sums over the entries of a map

sorted : (b : Bool) → T b → b ≡ true
sorted true h = refl
sorted false h = absurd h

below : (r : Ordering) → is_lt r ≡ true → r ≡ Less
below Less h = refl
below Equal h = absurd (cc)
below Greater h = absurd (cc)

module _ {K V : Type 0} {R : K → K → Ordering} (o : IsTotalOrder R) where
  -- a key below the first is not there
  pub none_below : (k x : K) (es : List (K × V)) → R k x ≡ Less → below_all R x es ≡ true → find R k es ≡ None
  none_below k x [] l up = refl
  none_below k x (e ∷ es) l up =
      let parts = and_parts (is_lt (R x e.0)) (below_all R x es) up in
      ap (λ r. cond (is_eq r) (Some e.1) (find R k es)) (o.trans k x e.0 l (below (R x e.0) parts.0)) ∙ none_below k x es l parts.1

module _ {K V : Type 0} {R : K → K → Ordering} (o : IsTotalOrder R) (exact : IsAntisymmetric R) (f : K × V → ℕ) where
  -- what the entry of a key adds
  abbrev old_of : K → Option V → ℕ
  old_of k None = 0
  old_of k (Some v) = f (k, v)

  total_step : (k : K) (v : V) (e : K × V) (es : List (K × V)) → below_all R e.0 es ≡ true → sum_by f (put R k v es) + old_of k (find R k es) ≡ sum_by f es + f (k, v)
      → (r : Ordering) → R k e.0 ≡ r
      → sum_by f (by_order r ((k, v) ∷ e ∷ es) ((e.0, v) ∷ es) (e ∷ put R k v es)) + old_of k (cond (is_eq r) (Some e.1) (find R k es)) ≡ sum_by f (e ∷ es) + f (k, v)
  total_step k v e es up rest Less is =
      let none : old_of k (find R k es) ≡ 0 = ap (old_of k) (none_below o k e.0 es is up) in
      let head = sum_by-cons f (k, v) (e ∷ es) in
      omega (arith, none, head)
  total_step k v e es up rest Equal is =
      let key : k ≡ e.0 = exact k e.0 is in
      let there : f (e.0, v) ≡ f (k, v) = ap (λ (x : K). f (x, v)) (sym key) in
      let was : f (k, e.1) ≡ f e = ap (λ (x : K). f (x, e.1)) key in
      let head = sum_by-cons f (e.0, v) es in
      let whole = sum_by-cons f e es in
      omega (arith, there, was, head, whole)
  total_step k v e es up rest Greater is =
      let head = sum_by-cons f e (put R k v es) in
      let whole = sum_by-cons f e es in
      omega (arith, rest, head, whole)

  total : (k : K) (v : V) (es : List (K × V)) → is_sorted R es ≡ true → sum_by f (put R k v es) + old_of k (find R k es) ≡ sum_by f es + f (k, v)
  total k v [] up = let head = sum_by-cons f (k, v) [] in omega (arith, head)
  total k v (e ∷ es) up =
      let parts = and_parts (below_all R e.0 es) (is_sorted R es) up in
      total_step k v e es parts.0 (total k v es parts.1) (R k e.0) refl

  part_step : (k : K) (e : K × V) (es : List (K × V)) → old_of k (find R k es) ≤ sum_by f es → (r : Ordering) → R k e.0 ≡ r → old_of k (cond (is_eq r) (Some e.1) (find R k es)) ≤ sum_by f (e ∷ es)
  part_step k e es rest Less is = let whole = sum_by-cons f e es in omega (arith, rest, whole)
  part_step k e es rest Equal is =
      let was : f (k, e.1) ≡ f e = ap (λ (x : K). f (x, e.1)) (exact k e.0 is) in
      let whole = sum_by-cons f e es in
      omega (arith, was, whole)
  part_step k e es rest Greater is = let whole = sum_by-cons f e es in omega (arith, rest, whole)

  part : (k : K) (es : List (K × V)) → old_of k (find R k es) ≤ sum_by f es
  part k [] = omega arith
  part k (e ∷ es) = part_step k e es (part k es) (R k e.0) refl

-- ---- the counts of rows

no_items : {X : Type 0} (xs : List X) → length xs ≡ 0 → xs ≡ []
no_items [] e = refl
no_items (x ∷ xs) e = absurd (cc)

-- whether an entry has a place
abbrev pub has_place : {P K V : Type 0} → (P → P → Ordering) → (K → V → P) → P → K × V → ℕ
has_place RP at p e = ones (is_place RP (Some (at e.0 e.1)) p)

module _ {P K V : Type 0} (RP : P → P → Ordering) (R : K → K → Ordering) (at : K → V → P) where
  -- of no rows
  pub nothing_counted : AreCounted RP {RK = R} at empty empty
  nothing_counted p = ap (λ (w : Option ℕ). unwrap_or w 0) (get-empty RP p) ∙ ap (sum_by (has_place RP at p)) (sym (no_items (entries {R = R} empty) (sym (len-entries {R = R} empty) ∙ len-empty R V)))

  -- of equal maps
  pub counts_same : (rows others : FinMap R V) (old new : FinMap RP ℕ) → others ≡ rows → new ≡ old → AreCounted RP at rows old → AreCounted RP at others new
  counts_same rows others old new p q are place = (λ i. count_at (q i) place) ∙ (are place ∙ (λ i. row_count RP at (sym p i) place))

  module _ (ok : IsTotalOrder R) (exact : IsAntisymmetric R) where
    ones_of : (k : K) (w : Option V) (p : P) → old_of ok exact (has_place RP at p) k w ≡ ones (is_place RP (option_map (at k) w) p)
    ones_of k None p = refl
    ones_of k (Some v) p = refl

    -- the row that is found is counted
    pub row_counted : (rows : FinMap R V) (key : K) (counts : FinMap RP ℕ) → AreCounted RP at rows counts → HasCounted RP (option_map (at key) (get rows key)) counts
    row_counted rows key counts are p =
        let own : ones (is_place RP (option_map (at key) (get rows key)) p) ≡ old_of ok exact (has_place RP at p) key (find R key (entries rows)) = sym (ones_of key (get rows key) p) ∙ ap (old_of ok exact (has_place RP at p) key) (get-entries rows key) in
        let most = part ok exact (has_place RP at p) key (entries rows) in
        let all = are p in
        omega (arith, own, most, all)

    -- a row is written, and counted where it is in place of where it was
    pub counts_written : (rows : FinMap R V) (key : K) (v : V) (old new : FinMap RP ℕ) → IsRecounted RP (option_map (at key) (get rows key)) (at key v) old new → AreCounted RP at rows old → AreCounted RP at (insert rows key v) new
    counts_written rows key v old new moved are p =
        let own : ones (is_place RP (option_map (at key) (get rows key)) p) ≡ old_of ok exact (has_place RP at p) key (find R key (entries rows)) = sym (ones_of key (get rows key) p) ∙ ap (old_of ok exact (has_place RP at p) key) (get-entries rows key) in
        let sums = total ok exact (has_place RP at p) key v (entries rows) (sorted _ (entries_sorted rows)) in
        let written : row_count RP at (insert rows key v) p ≡ sum_by (has_place RP at p) (put R key v (entries rows)) = ap (sum_by (has_place RP at p)) (entries-insert ok rows key v) in
        let all = are p in
        let step = moved p in
        omega (arith, own, sums, written, all, step)
