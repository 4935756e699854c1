-- The values at some keys that pass are those of the map that pass, where each such key is among them.
use Rattle.std.proofs.Common.{◌≡◌, Bool, true, false, cond, ◌||◌, List, [], ◌∷◌, map, refl, sym, ap, ◌∙◌, Ordering, Option, Some, None, Result, Ok, Err, IfOk, ℕ, ◌+◌, ◌<◌, ◌≤◌, length, get_or, drop, length-drop, arith}
use Rattle.std.proofs.lemmas.List.{drop_more}
use Rattle.std.specs.Prelude.{T}
use Rattle.std.specs.List.{filter, list_any}
use Rattle.std.specs.Ordering.{is_eq, is_lt, eq_by_cmp}
use Rattle.std.specs.Cmp.{Equal-is, IsTotalOrder, tied_itself}
use Rattle.std.specs.FinMap.{FinMap, IsAntisymmetric, get, insert, empty, entries, entries_sorted, from_sorted, get-insert, get-empty, get-entries, get-from_sorted, entries-from_sorted, same_map, find, values}
use Rattle.std.specs.FinMap.Entries.{is_sorted, below_all}
use Rattle.bsp_maps.proofs.OrderLemmas.{no_length}
use Rattle.bsp_maps.proofs.Orderings.{both, first, none_behind, second}
use Rattle.bsp_maps.specs.Picks.{with_value, with_key, with_keys}

-- each key whose value passes is among these
abbrev pub AreAmong : {K V : Type 0} {R : K → K → Ordering} → (K → V → Bool) → FinMap R V → List K → Type 0
AreAmong {K} {V} {R} holds m ks = (k : K) (v : V) → get m k ≡ Some v → holds k v ≡ true → list_any (eq_by_cmp R k) ks ≡ true

abbrev either : {V : Type 0} → Option V → Option V → Option V
either None y = y
either (Some v) y = Some v

twice : {V : Type 0} (x y : Option V) → either x (either x y) ≡ either x y
twice None y = refl
twice (Some v) y = refl

alone : {V : Type 0} (x : Option V) → either x None ≡ x
alone None = refl
alone (Some v) = refl

-- a key and then others
further : {V : Type 0} (b rest : Bool) (w x : Option V) → cond rest (either w (cond b (either w x) x)) (cond b (either w x) x) ≡ cond (b || rest) (either w x) x
further true true w x = twice w x
further true false w x = refl
further false rest w x = refl

enough : {V : Type 0} (w : Option V) (among : Bool) → ((v : V) → w ≡ Some v → among ≡ true) → cond among w None ≡ w
enough None true h = refl
enough None false h = refl
enough (Some v) true h = refl
enough (Some v) false h = let f : false ≡ true = h v refl in absurd (cc)

-- the value at a key passes, or does not
module _ {K V : Type 0} {R : K → K → Ordering} (holds : K → V → Bool) (m found : FinMap R V) (k : K) (v : V) where
  pub passed : get m k ≡ Some v → holds k v ≡ true → insert found k v ≡ with_key holds m k found
  passed at h = sym (ap (λ w. with_value holds k w found) at ∙ ap (λ b. cond b (insert found k v) found) h)

  pub refused : get m k ≡ Some v → holds k v ≡ false → found ≡ with_key holds m k found
  refused at h = sym (ap (λ w. with_value holds k w found) at ∙ ap (λ b. cond b (insert found k v) found) h)

pub if_ok : {A B : Type 0} {P Q : A → Type 0} (r : Result A B) → ((x : A) → P x → Q x) → IfOk r P → IfOk r Q
if_ok (Ok x) f p = f x p
if_ok (Err y) f p = tt

-- one key after another
pub next_key : {K V : Type 0} {R : K → K → Ordering} (holds : K → V → Bool) (m : FinMap R V) (keys : List K) (i : ℕ) (key : K) (found after all : FinMap R V) → i < length keys → key ≡ get_or keys i key → after ≡ with_key holds m key found → with_keys holds m (drop i keys) found ≡ all → with_keys holds m (drop (i + 1) keys) after ≡ all
next_key holds m keys i key found after all within is picked so_far =
    let step : drop i keys ≡ key ∷ drop (i + 1) keys = drop_more keys i key within ∙ ap (λ k. k ∷ drop (i + 1) keys) (sym is) in
    rw picked (rw step at so_far)

pub none_left : {A : Type 0} (xs : List A) (i : ℕ) → length xs ≤ i → drop i xs ≡ []
none_left xs i h = no_length (drop i xs) (let b = length-drop i xs in omega arith)

module _ {K V : Type 0} (R : K → K → Ordering) (o : IsTotalOrder R) where
  below_filter : (x : K) (p : K × V → Bool) (es : List (K × V)) → T (below_all R x es) → T (below_all R x (filter p es))
  below_filter x p [] h = tt
  below_filter x p (e ∷ es) h =
      let rest = below_filter x p es (second (is_lt (R x e.0)) (below_all R x es) h) in
      elim (p e) as (λ b. T (below_all R x (cond b (e ∷ filter p es) (filter p es)))) [
        | true ↦ both (is_lt (R x e.0)) (below_all R x (filter p es)) (first (is_lt (R x e.0)) (below_all R x es) h) rest
        | false ↦ rest
      ]

  pub sorted_filter : (p : K × V → Bool) (es : List (K × V)) → T (is_sorted R es) → T (is_sorted R (filter p es))
  sorted_filter p [] h = tt
  sorted_filter p (e ∷ es) h =
      let rest = sorted_filter p es (second (below_all R e.0 es) (is_sorted R es) h) in
      elim (p e) as (λ b. T (is_sorted R (cond b (e ∷ filter p es) (filter p es)))) [
        | true ↦ both (below_all R e.0 (filter p es)) (is_sorted R (filter p es)) (below_filter e.0 p es (first (below_all R e.0 es) (is_sorted R es) h)) rest
        | false ↦ rest
      ]

module _ {K V : Type 0} (R : K → K → Ordering) (o : IsTotalOrder R) (exact : IsAntisymmetric R) (holds : K → V → Bool) where
  abbrev pub wanted : K → Option V → Option V
  wanted k None = None
  wanted k (Some v) = cond (holds k v) (Some v) None

  -- ---- a list that passes

  step : (q : K) (e : K × V) (es : List (K × V)) (b h : Bool) → eq_by_cmp R q e.0 ≡ b → holds e.0 e.1 ≡ h → T (below_all R e.0 es)
      → find R q (filter (λ e. holds e.0 e.1) es) ≡ wanted q (find R q es)
      → find R q (cond h (e ∷ filter (λ e. holds e.0 e.1) es) (filter (λ e. holds e.0 e.1) es)) ≡ wanted q (cond b (Some e.1) (find R q es))
  step q e es true true b h up rest =
      let same : q ≡ e.0 = exact q e.0 ((Equal-is (R q e.0)).0 b) in
      ap (λ t. cond t (Some e.1) (find R q (filter (λ e. holds e.0 e.1) es))) b ∙ sym (ap (λ t. cond t (Some e.1) None) (ap (λ k. holds k e.1) same ∙ h))
  step q e es true false b h up rest =
      let same : q ≡ e.0 = exact q e.0 ((Equal-is (R q e.0)).0 b) in
      rest ∙ ap (wanted q) (none_behind R o q e.0 es ((Equal-is (R q e.0)).0 b) up) ∙ sym (ap (λ t. cond t (Some e.1) None) (ap (λ k. holds k e.1) same ∙ h))
  step q e es false true b h up rest = ap (λ t. cond t (Some e.1) (find R q (filter (λ e. holds e.0 e.1) es))) b ∙ rest
  step q e es false false b h up rest = rest

  pub find_passing : (q : K) (es : List (K × V)) → T (is_sorted R es) → find R q (filter (λ e. holds e.0 e.1) es) ≡ wanted q (find R q es)
  find_passing q [] up = refl
  find_passing q (e ∷ es) up = step q e es (eq_by_cmp R q e.0) (holds e.0 e.1) refl refl (first (below_all R e.0 es) (is_sorted R es) up) (find_passing q es (second (below_all R e.0 es) (is_sorted R es) up))

  -- ---- keys

  here : (k : K) (w : Option V) (found : FinMap R V) → get (with_value holds k w found) k ≡ either (wanted k w) (get found k)
  here k None found = refl
  here k (Some v) found = elim (holds k v) as (λ b. get (cond b (insert found k v) found) k ≡ either (cond b (Some v) None) (get found k)) [
    | true ↦ get-insert o found k v k ∙ ap (λ r. cond (is_eq r) (Some v) (get found k)) (tied_itself o k)
    | false ↦ refl
  ]

  elsewhere : (q k : K) (w : Option V) (found : FinMap R V) → eq_by_cmp R q k ≡ false → get (with_value holds k w found) q ≡ get found q
  elsewhere q k None found apart = refl
  elsewhere q k (Some v) found apart = elim (holds k v) as (λ b. get (cond b (insert found k v) found) q ≡ get found q) [
    | true ↦ get-insert o found k v q ∙ ap (λ b. cond b (Some v) (get found q)) apart
    | false ↦ refl
  ]

  module _ (m : FinMap R V) where
    at_key : (q k : K) (b : Bool) (found : FinMap R V) → eq_by_cmp R q k ≡ b → get (with_key holds m k found) q ≡ cond b (either (wanted q (get m q)) (get found q)) (get found q)
    at_key q k true found e =
        let same : k ≡ q = sym (exact q k ((Equal-is (R q k)).0 e)) in
        ap (λ j. get (with_key holds m j found) q) same ∙ here q (get m q) found
    at_key q k false found e = elsewhere q k (get m k) found e

    at_keys : (q : K) (ks : List K) (found : FinMap R V) → get (with_keys holds m ks found) q ≡ cond (list_any (eq_by_cmp R q) ks) (either (wanted q (get m q)) (get found q)) (get found q)
    at_keys q [] found = refl
    at_keys q (k ∷ ks) found =
        at_keys q ks (with_key holds m k found)
        ∙ ap (λ x. cond (list_any (eq_by_cmp R q) ks) (either (wanted q (get m q)) x) x) (at_key q k (eq_by_cmp R q k) found refl)
        ∙ further (eq_by_cmp R q k) (list_any (eq_by_cmp R q) ks) (wanted q (get m q)) (get found q)

    wanted_among : (ks : List K) → AreAmong holds m ks → (q : K) (w : Option V) → get m q ≡ w → (v : V) → wanted q w ≡ Some v → list_any (eq_by_cmp R q) ks ≡ true
    wanted_among ks among q None e v h = let f : None ≡ Some v = h in absurd (cc)
    wanted_among ks among q (Some x) e v h = held (holds q x) refl h where
      held : (b : Bool) → holds q x ≡ b → cond b (Some x) None ≡ Some v → list_any (eq_by_cmp R q) ks ≡ true
      held true t h = among q x e t
      held false t h = let f : None ≡ Some v = h in absurd (cc)

    found_among : (ks : List K) → AreAmong holds m ks → (q : K) → get (with_keys holds m ks empty) q ≡ wanted q (get m q)
    found_among ks among q =
        at_keys q ks empty
        ∙ ap (λ x. cond (list_any (eq_by_cmp R q) ks) (either (wanted q (get m q)) x) x) (get-empty R q)
        ∙ ap (λ x. cond (list_any (eq_by_cmp R q) ks) x None) (alone (wanted q (get m q)))
        ∙ enough (wanted q (get m q)) (list_any (eq_by_cmp R q) ks) (wanted_among ks among q (get m q) refl)

    passing : FinMap R V
    passing = from_sorted (filter (λ e. holds e.0 e.1) (entries m))

    is_passing : T (is_sorted R (filter (λ e. holds e.0 e.1) (entries m)))
    is_passing = sorted_filter R o (λ e. holds e.0 e.1) (entries m) (entries_sorted m)

    pub all_found : (ks : List K) → AreAmong holds m ks → values (with_keys holds m ks empty) ≡ map (λ e. e.1) (filter (λ e. holds e.0 e.1) (entries m))
    unfolding passing
    all_found ks among =
        ap values (same_map o exact (with_keys holds m ks empty) passing (λ q.
        found_among ks among q ∙ ap (wanted q) (get-entries m q)
        ∙ sym (get-from_sorted R (filter (λ e. holds e.0 e.1) (entries m)) q is_passing ∙ find_passing q (entries m) (entries_sorted m))))
        ∙ ap (map (λ e. e.1)) (entries-from_sorted R (filter (λ e. holds e.0 e.1) (entries m)) is_passing)

pub all_pass : {A : Type 0} (xs : List A) → filter (λ x. true) xs ≡ xs
all_pass [] = refl
all_pass (x ∷ xs) = ap (λ ys. x ∷ ys) (all_pass xs)
