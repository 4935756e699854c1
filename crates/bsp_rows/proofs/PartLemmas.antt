-- What of a map is kept after a write, and the map with each value changed.
use Rattle.std.proofs.Common.{◌≡◌, Bool, true, false, cond, T, List, [], ◌∷◌, map, Option, Some, None, option_map, refl, sym, ap, subst, ◌∙◌, Ordering, Less, Equal, Greater}
use Rattle.std.specs.List.{filter}
use Rattle.std.specs.Ordering.{is_eq, is_lt, eq_by_cmp}
use Rattle.std.specs.Cmp.{IsTotalOrder}
use Rattle.std.specs.FinMap.{FinMap, IsAntisymmetric, get, insert, remove, entries, get-entries, entries_sorted, get-insert, get-remove, get-from_sorted, entries-from_sorted, same_map}
use Rattle.std.specs.FinMap.Entries.{find, is_sorted, below_all}
use Rattle.std.proofs.lemmas.Bool.{and_parts, and_from}
use Rattle.bsp_rows.specs.Part.{kept}
use Rattle.bsp_rows.specs.Writes.{changed, changed_to}
use Rattle.bsp_rows.proofs.MapLemmas.{is_true, same_key}
use Rattle.bsp_rows.specs.Changes.{each, with_value}

-- ---- sorted entries

below_step : {K X : Type 0} (R : K → K → Ordering) (x : K) (e : K × X) (es : List (K × X)) (b : Bool) → is_lt (R x e.0) ≡ true → below_all R x es ≡ true → below_all R x (cond b (e ∷ es) es) ≡ true
below_step R x e es true h rest = and_from (is_lt (R x e.0)) (below_all R x es) h rest
below_step R x e es false h rest = rest

below_filter : {K X : Type 0} (R : K → K → Ordering) (test : K × X → Bool) (x : K) (es : List (K × X)) → below_all R x es ≡ true → below_all R x (filter test es) ≡ true
below_filter R test x [] h = refl
below_filter R test x (e ∷ es) h =
    let both = and_parts (is_lt (R x e.0)) (below_all R x es) h in
    below_step R x e (filter test es) (test e) both.0 (below_filter R test x es both.1)

sorted_step : {K X : Type 0} (R : K → K → Ordering) (e : K × X) (es : List (K × X)) (b : Bool) → below_all R e.0 es ≡ true → is_sorted R es ≡ true → is_sorted R (cond b (e ∷ es) es) ≡ true
sorted_step R e es true h rest = and_from (below_all R e.0 es) (is_sorted R es) h rest
sorted_step R e es false h rest = rest

pub sorted_filter : {K X : Type 0} (R : K → K → Ordering) (test : K × X → Bool) (es : List (K × X)) → is_sorted R es ≡ true → is_sorted R (filter test es) ≡ true
sorted_filter R test [] h = refl
sorted_filter R test (e ∷ es) h =
    let both = and_parts (below_all R e.0 es) (is_sorted R es) h in
    sorted_step R e (filter test es) (test e) (below_filter R test e.0 es both.0) (sorted_filter R test es both.1)

below_each : {K X : Type 0} (R : K → K → Ordering) (f : X → X) (x : K) (es : List (K × X)) → below_all R x es ≡ true → below_all R x (map (with_value f) es) ≡ true
below_each R f x [] h = refl
below_each R f x (e ∷ es) h =
    let both = and_parts (is_lt (R x e.0)) (below_all R x es) h in
    and_from (is_lt (R x e.0)) (below_all R x (map (with_value f) es)) both.0 (below_each R f x es both.1)

sorted_each : {K X : Type 0} (R : K → K → Ordering) (f : X → X) (es : List (K × X)) → is_sorted R es ≡ true → is_sorted R (map (with_value f) es) ≡ true
sorted_each R f [] h = refl
sorted_each R f (e ∷ es) h =
    let both = and_parts (below_all R e.0 es) (is_sorted R es) h in
    and_from (below_all R e.0 (map (with_value f) es)) (is_sorted R (map (with_value f) es)) (below_each R f e.0 es both.0) (sorted_each R f es both.1)

lt_not_eq : (r : Ordering) → is_lt r ≡ true → is_eq r ≡ false
lt_not_eq Less h = refl
lt_not_eq Equal h = absurd (cc h)
lt_not_eq Greater h = absurd (cc h)

none_below : {K X : Type 0} (R : K → K → Ordering) (x : K) (es : List (K × X)) → below_all R x es ≡ true → find R x es ≡ None
none_below R x [] h = refl
none_below R x (e ∷ es) h =
    let both = and_parts (is_lt (R x e.0)) (below_all R x es) h in
    ap (λ b. cond b (Some e.1) (find R x es)) (lt_not_eq _ both.0) ∙ none_below R x es both.1

-- ---- what is looked up

-- what is at a key, if it passes the test
abbrev pub passing : {K X : Type 0} → (K × X → Bool) → K → Option X → Option X
passing test k None = None
passing test k (Some v) = cond (test (k, v)) (Some v) None

module _ {K X : Type 0} {R : K → K → Ordering} (o : IsTotalOrder R) (exact : IsAntisymmetric R) where
  here_step : (test : K × X → Bool) (e : K × X) (es : List (K × X)) → find R e.0 (filter test es) ≡ None → (b : Bool) → test e ≡ b → eq_by_cmp R e.0 e.0 ≡ true → find R e.0 (cond b (e ∷ filter test es) (filter test es)) ≡ cond b (Some e.1) None
  here_step test e es none true is tie = ap (λ c. cond c (Some e.1) (find R e.0 (filter test es))) tie
  here_step test e es none false is tie = none

  there_step : (test : K × X → Bool) (k : K) (e : K × X) (es : List (K × X)) → eq_by_cmp R k e.0 ≡ false → (b : Bool) → find R k (cond b (e ∷ filter test es) (filter test es)) ≡ find R k (filter test es)
  there_step test k e es h true = ap (λ c. cond c (Some e.1) (find R k (filter test es))) h
  there_step test k e es h false = refl

  find_step : (test : K × X → Bool) (k : K) (e : K × X) (es : List (K × X)) → below_all R e.0 es ≡ true → find R k (filter test es) ≡ passing test k (find R k es) → (b : Bool) → eq_by_cmp R k e.0 ≡ b → find R k (filter test (e ∷ es)) ≡ passing test k (cond b (Some e.1) (find R k es))
  find_step test k e es below rest true is =
      let key : k ≡ e.0 = same_key exact k e.0 is in
      let tie : eq_by_cmp R e.0 e.0 ≡ true = ap (λ (q : K). eq_by_cmp R q e.0) (sym key) ∙ is in
      let none : find R e.0 (filter test es) ≡ None = none_below R e.0 (filter test es) (below_filter R test e.0 es below) in
      subst (λ (q : K). find R q (filter test (e ∷ es)) ≡ cond (test (q, e.1)) (Some e.1) None) (sym key) (here_step test e es none (test e) refl tie)
  find_step test k e es below rest false is = there_step test k e es is (test e) ∙ rest

  find_filter : (test : K × X → Bool) (k : K) (es : List (K × X)) → is_sorted R es ≡ true → find R k (filter test es) ≡ passing test k (find R k es)
  find_filter test k [] h = refl
  find_filter test k (e ∷ es) h =
      let both = and_parts (below_all R e.0 es) (is_sorted R es) h in
      find_step test k e es both.0 (find_filter test k es both.1) (eq_by_cmp R k e.0) refl

  pub kept_get : (test : K × X → Bool) (m : FinMap R X) (k : K) → get (kept test m) k ≡ passing test k (get m k)
  kept_get test m k =
      let s : is_sorted R (entries m) ≡ true = is_true _ (entries_sorted m) in
      get-from_sorted R (filter test (entries m)) k (subst T (sym (sorted_filter R test (entries m) s)) tt)
      ∙ (find_filter test k (entries m) s ∙ ap (passing test k) (sym (get-entries m k)))

  pub kept_entries : (test : K × X → Bool) (m : FinMap R X) → entries (kept test m) ≡ filter test (entries m)
  kept_entries test m = entries-from_sorted R (filter test (entries m)) (subst T (sym (sorted_filter R test (entries m) (is_true _ (entries_sorted m)))) tt)

  pub each_entries : (f : X → X) (m : FinMap R X) → entries (each f m) ≡ map (with_value f) (entries m)
  each_entries f m = entries-from_sorted R (map (with_value f) (entries m)) (subst T (sym (sorted_each R f (entries m) (is_true _ (entries_sorted m)))) tt)

  find_each : (f : X → X) (k : K) (es : List (K × X)) → find R k (map (with_value f) es) ≡ option_map f (find R k es)
  find_each f k [] = refl
  find_each f k (e ∷ es) = by_test (eq_by_cmp R k e.0) (find_each f k es) where
    by_test : (b : Bool) → find R k (map (with_value f) es) ≡ option_map f (find R k es) → cond b (Some (f e.1)) (find R k (map (with_value f) es)) ≡ option_map f (cond b (Some e.1) (find R k es))
    by_test true rest = refl
    by_test false rest = rest

  pub each_get : (f : X → X) (m : FinMap R X) (k : K) → get (each f m) k ≡ option_map f (get m k)
  each_get f m k =
      let s : is_sorted R (entries m) ≡ true = is_true _ (entries_sorted m) in
      get-from_sorted R (map (with_value f) (entries m)) k (subst T (sym (sorted_each R f (entries m) s)) tt)
      ∙ (find_each f k (entries m) ∙ ap (option_map f) (sym (get-entries m k)))

  -- ---- what is kept after a write

  in_step : (test : K × X → Bool) (m : FinMap R X) (k : K) (v : X) → test (k, v) ≡ true → (q : K) (b : Bool) → eq_by_cmp R q k ≡ b → passing test q (cond b (Some v) (get m q)) ≡ cond b (Some v) (passing test q (get m q))
  in_step test m k v h q true is = ap (λ c. cond c (Some v) None) (ap (λ (x : K). test (x, v)) (same_key exact q k is) ∙ h)
  in_step test m k v h q false is = refl

  pub kept_insert : (test : K × X → Bool) (m : FinMap R X) (k : K) (v : X) → test (k, v) ≡ true → kept test (insert m k v) ≡ insert (kept test m) k v
  kept_insert test m k v h = same_map o exact _ _ (λ q.
      kept_get test (insert m k v) q ∙ (ap (passing test q) (get-insert o m k v q) ∙ (in_step test m k v h q (eq_by_cmp R q k) refl
      ∙ sym (get-insert o (kept test m) k v q ∙ ap (cond (eq_by_cmp R q k) (Some v)) (kept_get test m q)))))

  out_step : (test : K × X → Bool) (m : FinMap R X) (k : K) (new : Option X) → passing test k new ≡ None → passing test k (get m k) ≡ None → (q : K) (b : Bool) → eq_by_cmp R q k ≡ b → passing test q (cond b new (get m q)) ≡ passing test q (get m q)
  out_step test m k new h was q true is = subst (λ (x : K). passing test x new ≡ passing test x (get m x)) (sym (same_key exact q k is)) (h ∙ sym was)
  out_step test m k new h was q false is = refl

  pub kept_beside : (test : K × X → Bool) (m : FinMap R X) (k : K) (v : X) → test (k, v) ≡ false → passing test k (get m k) ≡ None → kept test (insert m k v) ≡ kept test m
  kept_beside test m k v h was = same_map o exact _ _ (λ q.
      kept_get test (insert m k v) q ∙ (ap (passing test q) (get-insert o m k v q) ∙ (out_step test m k (Some v) (ap (λ c. cond c (Some v) None) h) was q (eq_by_cmp R q k) refl
      ∙ sym (kept_get test m q))))

  removed_step : (test : K × X → Bool) (m : FinMap R X) (q : K) (b : Bool) → passing test q (cond b None (get m q)) ≡ cond b None (passing test q (get m q))
  removed_step test m q true = refl
  removed_step test m q false = refl

  pub kept_remove : (test : K × X → Bool) (m : FinMap R X) (k : K) → kept test (remove m k) ≡ remove (kept test m) k
  kept_remove test m k = same_map o exact _ _ (λ q.
      kept_get test (remove m k) q ∙ (ap (passing test q) (get-remove o m k q) ∙ (removed_step test m q (eq_by_cmp R q k)
      ∙ sym (get-remove o (kept test m) k q ∙ ap (cond (eq_by_cmp R q k) None) (kept_get test m q)))))

  pub kept_remove_beside : (test : K × X → Bool) (m : FinMap R X) (k : K) → passing test k (get m k) ≡ None → kept test (remove m k) ≡ kept test m
  kept_remove_beside test m k was = same_map o exact _ _ (λ q.
      kept_get test (remove m k) q ∙ (ap (passing test q) (get-remove o m k q) ∙ (out_step test m k None refl was q (eq_by_cmp R q k) refl
      ∙ sym (kept_get test m q))))

  -- where nothing is, a change changes nothing
  pub changed_none : (f : X → X) (k : K) (m : FinMap R X) → get m k ≡ None → changed f k m ≡ m
  changed_none f k m h = ap (λ (found : Option X). changed_to f k found m) h

  pub changed_some : (f : X → X) (k : K) (m : FinMap R X) (v : X) → get m k ≡ Some v → changed f k m ≡ insert m k (f v)
  changed_some f k m v h = ap (λ (found : Option X). changed_to f k found m) h

  kept_changed_some : (test : K × X → Bool) (f : X → X) (k : K) (m : FinMap R X) (v : X) → get m k ≡ Some v → test (k, f v) ≡ test (k, v) → (b : Bool) → test (k, v) ≡ b → kept test (insert m k (f v)) ≡ changed f k (kept test m)
  kept_changed_some test f k m v there same true is =
      let kept_there : get (kept test m) k ≡ Some v = kept_get test m k ∙ (ap (passing test k) there ∙ ap (λ c. cond c (Some v) None) is) in
      kept_insert test m k (f v) (same ∙ is) ∙ sym (changed_some f k (kept test m) v kept_there)
  kept_changed_some test f k m v there same false is =
      let gone : passing test k (get m k) ≡ None = ap (passing test k) there ∙ ap (λ c. cond c (Some v) None) is in
      kept_beside test m k (f v) (same ∙ is) gone ∙ sym (changed_none f k (kept test m) (kept_get test m k ∙ gone))

  kept_changed_by : (test : K × X → Bool) (f : X → X) (k : K) (m : FinMap R X) → ((v : X) → test (k, f v) ≡ test (k, v)) → (found : Option X) → get m k ≡ found → kept test (changed_to f k found m) ≡ changed f k (kept test m)
  kept_changed_by test f k m same None h = sym (changed_none f k (kept test m) (kept_get test m k ∙ ap (passing test k) h))
  kept_changed_by test f k m same (Some v) h = kept_changed_some test f k m v h (same v) (test (k, v)) refl

  pub kept_changed : (test : K × X → Bool) (f : X → X) (k : K) (m : FinMap R X) → ((v : X) → test (k, f v) ≡ test (k, v)) → kept test (changed f k m) ≡ changed f k (kept test m)
  kept_changed test f k m same = kept_changed_by test f k m same (get m k) refl

  each_step : (test : K × X → Bool) (f : X → X) (q : K) → ((k : K) (v : X) → test (k, f v) ≡ test (k, v)) → (found : Option X) → passing test q (option_map f found) ≡ option_map f (passing test q found)
  each_step test f q same None = refl
  each_step test f q same (Some v) = ap (λ c. cond c (Some (f v)) None) (same q v) ∙ by_test (test (q, v)) where
    by_test : (b : Bool) → cond b (Some (f v)) None ≡ option_map f (cond b (Some v) None)
    by_test true = refl
    by_test false = refl

  pub kept_each : (test : K × X → Bool) (f : X → X) (m : FinMap R X) → ((k : K) (v : X) → test (k, f v) ≡ test (k, v)) → kept test (each f m) ≡ each f (kept test m)
  kept_each test f m same = same_map o exact _ _ (λ q.
      kept_get test (each f m) q ∙ (ap (passing test q) (each_get f m q) ∙ (each_step test f q same (get m q)
      ∙ sym (each_get f (kept test m) q ∙ ap (option_map f) (kept_get test m q)))))
