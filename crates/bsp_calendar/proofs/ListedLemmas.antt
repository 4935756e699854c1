-- Lemmas on entries, each once by its key, and on entries of one key that differ.
use Rattle.std.proofs.Common.{◌≡◌, ℕ, suc, ◌+◌, ◌<◌, ◌&&◌, ◌||◌, Bool, true, false, not, cond, List, [], ◌∷◌, ◌++◌, length, get_or, take, drop, refl, sym, ap, ◌∙◌, arith, inl, inr}
use Rattle.std.specs.List.{All, AllPairs, Contains, filter, list_any}
use Rattle.std.specs.Cmp.{IsEquivalence, IsTotalOrder, Equal-is}
use Rattle.std.specs.Ordering.{eq_by_cmp, is_gt, is_lt}
use Rattle.std.specs.declared.cmp.Ordering.{Ordering}
use Rattle.std.specs.declared.cmp.Ordering.TheVariants.{Equal}
use Rattle.std.proofs.lemmas.Cmp.{eq_by_cmp_equiv}
use Rattle.std.specs.Prelude.{Option, Some, None, IsSome, is_some, Result, MatchResult}
use Rattle.std.proofs.lemmas.Bool.{both_ways, not_from_false, and_from, and_parts, and_left, false_from_ne_true, cases_order, not-true}
use Rattle.std.proofs.lemmas.List.{append-nil, append_assoc, take_more, take-append-drop, get_or_default}
use Rattle.std.proofs.lemmas.List.Elements.{filter-append, filter_agree, filter_passes, Contains-append_left, Contains-push_cases, Contains-push, Contains-get_or, All-weaker}
use Rattle.std.proofs.lemmas.List.Folds.{list_any_none, Any-from_list_any, list_any-from_Any}
use Rattle.std.proofs.lemmas.List.Kept.{AllPairs-cons, AllPairs-filter}
use Rattle.std.proofs.lemmas.Map.Views.{any-filter_same}
use Rattle.std.proofs.lemmas.Result.{MatchResult-weaker}
use Rattle.std.proofs.lemmas.Option.{MatchOption-at_some, MatchOption-at_none}
use Rattle.bsp_calendar.specs.Requests.{once, has_conflict}
use Rattle.bsp_calendar.specs.Listed.{same_key, is_other, IsJoined, IsPlaceOfKey, IsListed, IsRefusal}
use Rattle.bsp_calendar.specs.declared.fault.PlanFault.{PlanFault}
use Rattle.bsp_calendar.specs.declared.fault.PlanFault.TheVariants.{NoMemory}
use Rattle.bsp_calendar.proofs.ListLemmas.{contains_head, contains_tail, contains_cases, filter_contains}

-- ---- a test of the elements, and membership

pub any_contains : {X : Type 0} (p : X → Bool) (xs : List X) (x : X) → Contains xs x → p x ≡ true → list_any p xs ≡ true
any_contains p xs x (k, l, is) holds = list_any-from_Any p xs (k, x, l, is, holds)

pub contains_any : {X : Type 0} (p : X → Bool) (xs : List X) → list_any p xs ≡ true → (x : X) × Contains xs x × (p x ≡ true)
contains_any p xs h = let (k, x, l, is, holds) = Any-from_list_any p xs h in (x, (k, l, is), holds)

pub any_false : {X : Type 0} (p : X → Bool) (xs : List X) (x : X) → list_any p xs ≡ false → Contains xs x → p x ≡ false
any_false p xs x h in' = false_from_ne_true (p x) (λ holds. both_ways _ h (any_contains p xs x in' holds))

-- all pass
pub filter_all : {X : Type 0} (p : X → Bool) (xs : List X) → All (λ x. p x ≡ true) xs → filter p xs ≡ xs
filter_all p [] h = refl
filter_all p (x ∷ xs) h = rw (h 0 x (omega arith), filter_all p xs (λ k d l. h (suc k) d (omega arith))) refl

-- entries of one key are one entry
abbrev pub Agree : {A : Type 0} → (A → A → Bool) → List A → Type 0
Agree {A} same xs = (x y : A) → Contains xs x → Contains xs y → same x y ≡ true → x ≡ y

and_second : (x y : Bool) → x ≡ true → (x && y) ≡ false → y ≡ false
and_second true y h k = k
and_second false y h k = absurd (cc h)

filter_one : {X : Type 0} (p q : X → Bool) (x : X) (xs : List X) → filter q (filter p xs) ≡ filter (λ y. p y && q y) xs → (a : Bool) → p x ≡ a → (b : Bool) → q x ≡ b → filter q (filter p (x ∷ xs)) ≡ filter (λ y. p y && q y) (x ∷ xs)
filter_one p q x xs rest true a true b = rw (a, b, rest) refl
filter_one p q x xs rest true a false b = rw (a, b) rest
filter_one p q x xs rest false a true b = rw a rest
filter_one p q x xs rest false a false b = rw a rest

filter_both : {X : Type 0} (p q : X → Bool) (xs : List X) → filter q (filter p xs) ≡ filter (λ x. p x && q x) xs
filter_both p q [] = refl
filter_both p q (x ∷ xs) = filter_one p q x xs (filter_both p q xs) (p x) refl (q x) refl

neither : (a b : Bool) → (not a && not b) ≡ not (b || a)
neither true true = refl
neither true false = refl
neither false true = refl
neither false false = refl

-- each of those each once is one of all
pub once_contains : {A : Type 0} (same : A → A → Bool) (xs : List A) (x : A) → Contains (once same xs) x → Contains xs x
once_contains same [] x h = h
once_contains same (y ∷ ys) x h =
    elim (contains_cases y (filter (λ z. not (same y z)) (once same ys)) x h) [
      | inl here ↦ rw here (contains_head x ys)
      | inr there ↦ contains_tail y ys x (once_contains same ys x (filter_contains (λ z. not (same y z)) (once same ys) x there))
    ]

module _ {A K : Type 0} (eq : K → K → Bool) (laws : IsEquivalence eq) (key : A → K) where
  abbrev same : A → A → Bool
  same = same_key eq key

  abbrev others : A → A → Bool
  others x y = not (same x y)

  -- ---- each once

  same_step : (y x z : A) → same y x ≡ true → same z x ≡ same z y
  same_step y x z h = laws.symm (key z) (key x) ∙ (sym (laws.congr (key y) (key x) (key z) h) ∙ laws.symm (key y) (key z))

  any_head : (z : A) (zs : List A) (x : A) → list_any (λ y. same y x) (once same zs) ≡ list_any (λ y. same y x) zs → (b : Bool) → same z x ≡ b → list_any (λ y. same y x) (once same (z ∷ zs)) ≡ list_any (λ y. same y x) (z ∷ zs)
  any_head z zs x rest true is = rw is refl
  any_head z zs x rest false is =
      rw (is, any-filter_same (λ y. same y x) (others z) true (λ y h. not_from_false _ (sym (same_step y x z h) ∙ is)) (once same zs)) rest

  -- an entry of a key stands among those each once where it stands among all
  pub any_once : (xs : List A) (x : A) → list_any (λ y. same y x) (once same xs) ≡ list_any (λ y. same y x) xs
  any_once [] x = refl
  any_once (z ∷ zs) x = any_head z zs x (any_once zs x) (same z x) refl

  once_step : (z : A) (os : List A) (x : A) (b : Bool) → same z x ≡ b → (any : Bool) → z ∷ filter (others z) (cond any os (os ++ x ∷ [])) ≡ cond (same z x || any) (z ∷ filter (others z) os) ((z ∷ filter (others z) os) ++ x ∷ [])
  once_step z os x true is true = rw is refl
  once_step z os x true is false = rw (is, filter-append, is, append-nil) refl
  once_step z os x false is true = rw is refl
  once_step z os x false is false = rw (is, filter-append, is) refl

  -- one more entry
  pub once_push : (xs : List A) (x : A) → once same (xs ++ x ∷ []) ≡ cond (list_any (λ y. same y x) xs) (once same xs) (once same xs ++ x ∷ [])
  once_push [] x = refl
  once_push (z ∷ zs) x = rw (once_push zs x) (once_step z (once same zs) x (same z x) refl (list_any (λ y. same y x) zs))

  -- the same, with the test over those each once
  pub once_more : (xs : List A) (x : A) → once same (xs ++ x ∷ []) ≡ cond (list_any (λ y. same y x) (once same xs)) (once same xs) (once same xs ++ x ∷ [])
  once_more xs x = rw (any_once xs x) (once_push xs x)

  -- no two of those each once have one key
  pub once_distinct : (xs : List A) → AllPairs (λ x y. same x y ≡ false) (once same xs)
  once_distinct [] = λ i j d lt l. absurd (omega arith)
  once_distinct (x ∷ xs) =
      AllPairs-cons (λ y z. same y z ≡ false) x (filter (others x) (once same xs))
      (All-weaker (λ y. others x y ≡ true) (λ y. same x y ≡ false) (λ y h. not-true _ h) (filter (others x) (once same xs)) (filter_passes (others x) (once same xs)))
      (AllPairs-filter (λ y z. same y z ≡ false) (others x) (once same xs) (once_distinct xs))

  -- where no two have one key, each is there once
  pub once_same : (xs : List A) → AllPairs (λ x y. same x y ≡ false) xs → once same xs ≡ xs
  once_same [] h = refl
  once_same (x ∷ xs) h =
      rw (once_same xs (λ i j d lt l. h (suc i) (suc j) d (omega arith) (omega arith)))
      (ap (λ ys. x ∷ ys) (filter_all (others x) xs (λ k d l. not_from_false _ (h 0 (suc k) d (omega arith) (omega arith)))))

  -- those each once stay in front when more are added
  once_front : (xs ys : List A) → (zs : List A) × (once same (xs ++ ys) ≡ once same xs ++ zs)
  once_front [] ys = (once same ys, refl)
  once_front (x ∷ xs) ys =
      let (zs, e) = once_front xs ys in
      (filter (others x) zs, rw (e, filter-append) refl)

  pub once_more_front : (xs ys : List A) → AllPairs (λ x y. same x y ≡ false) xs → (zs : List A) × (once same (xs ++ ys) ≡ xs ++ zs)
  once_more_front xs ys apart =
      let (zs, e) = once_front xs ys in
      (zs, e ∙ ap (λ ws. ws ++ zs) (once_same xs apart))

  -- what is added to a list: those whose key no entry of it has
  abbrev new_to : List A → A → Bool
  new_to xs y = not (list_any (λ x. same x y) xs)

  once_append : (xs ys : List A) → once same (xs ++ ys) ≡ once same xs ++ filter (new_to xs) (once same ys)
  once_append [] ys = sym (filter_all (new_to []) (once same ys) (λ k d l. refl))
  once_append (x ∷ xs) ys =
      rw (
        once_append xs ys,
        filter-append,
        filter_both (new_to xs) (others x) (once same ys),
        filter_agree (λ y. new_to xs y && others x y) (new_to (x ∷ xs)) (λ y. neither (list_any (λ z. same z y) xs) (same x y)) (once same ys),
      ) refl

  -- those each once may stand for all
  pub once_once : (xs ys : List A) → once same (once same xs ++ ys) ≡ once same (xs ++ ys)
  once_once xs ys =
      let twice = once_same (once same xs) (once_distinct xs) in
      let same_new = filter_agree (new_to (once same xs)) (new_to xs) (λ y. ap not (any_once xs y)) (once same ys) in
      once_append (once same xs) ys ∙ ((rw (twice, same_new) refl) ∙ sym (once_append xs ys))

  -- a list that was empty, and to which such entries were added
  pub restored : (list first xs ys : List A) → list ≡ once same (first ++ ys) → first ≡ [] → ys ≡ xs → AllPairs (λ x y. same x y ≡ false) xs → list ≡ xs
  restored list first xs ys is none all apart = is ∙ (rw (none, all) (once_same xs apart))

  -- ---- entries of one key that differ

  module _ (differ : A → A → Bool) (alike : (x y : A) → eq (key x) (key y) ≡ true → differ x y ≡ false → x ≡ y) (itself : (x : A) → differ x x ≡ false) where
    conflict_from : (xs : List A) (x y : A) → Contains xs x → Contains xs y → same x y ≡ true → differ x y ≡ true → has_conflict same differ xs ≡ true
    conflict_from xs x y hx hy h d =
        any_contains (λ x. list_any (λ y. same x y && differ x y) xs) xs x hx (any_contains (λ y. same x y && differ x y) xs y hy (and_from _ _ h d))

    conflict_parts : (xs : List A) → has_conflict same differ xs ≡ true → (x : A) × ((y : A) × Contains xs x × Contains xs y × (same x y ≡ true) × (differ x y ≡ true))
    conflict_parts xs h =
        let (x, hx, inner) = contains_any (λ x. list_any (λ y. same x y && differ x y) xs) xs h in
        let (y, hy, both) = contains_any (λ y. same x y && differ x y) xs inner in
        let (s, d) = and_parts (same x y) (differ x y) both in
        (x, (y, hx, hy, s, d))

    -- entries that agree do not differ
    pub no_conflict : (xs : List A) → Agree same xs → has_conflict same differ xs ≡ false
    no_conflict xs agree =
        false_from_ne_true _
        (λ h.
        let (x, (y, hx, hy, s, d)) = conflict_parts xs h in
        let e : x ≡ y = agree x y hx hy s in
        both_ways _ (itself y) (rw e at d))

    -- those that differ still differ among more
    pub conflict_more : (xs ys : List A) → has_conflict same differ xs ≡ true → has_conflict same differ (xs ++ ys) ≡ true
    conflict_more xs ys h =
        let (x, (y, hx, hy, s, d)) = conflict_parts xs h in
        conflict_from (xs ++ ys) x y (Contains-append_left xs ys x hx) (Contains-append_left xs ys y hy) s d

    -- one more entry that differs from one of its key
    pub conflict_push : (xs : List A) (x : A) → list_any (is_other eq key differ x) (once same xs) ≡ true → has_conflict same differ (xs ++ x ∷ []) ≡ true
    conflict_push xs x h =
        let (y, hy, both) = contains_any (is_other eq key differ x) (once same xs) h in
        let (s, d) = and_parts (same y x) (differ y x) both in
        conflict_from (xs ++ x ∷ []) y x (Contains-append_left xs (x ∷ []) y (once_contains same xs y hy)) (Contains-push xs x) s d

    -- where no two have one key, they agree
    pub agree_distinct : (xs : List A) → AllPairs (λ x y. same x y ≡ false) xs → Agree same xs
    agree_distinct xs apart x y (i, li, ix) (j, lj, jy) s =
        elim (cases_order i j) [
          | inl e ↦ sym ix ∙ (get_or_default xs i x y li ∙ (ap (λ k. get_or xs k y) e ∙ jy))
          | inr other ↦
              elim other [
                | inl lt ↦ absurd (both_ways _ (rw (get_or_default xs i y x li, ix, jy) at (apart i j y lt lj)) s)
                | inr gt ↦ absurd (both_ways _ (rw (get_or_default xs j x y lj, ix, jy) at (apart j i x gt li)) (laws.symm (key y) (key x) ∙ s))
              ]
        ]

    -- an entry agrees with one more of its key, where none of that key differs
    agree_with : (xs : List A) (x : A) → Agree same xs → list_any (is_other eq key differ x) (once same xs) ≡ false → (a : A) → Contains xs a → same a x ≡ true → a ≡ x
    agree_with xs x agree none a ina s =
        let (z, hz, zx) = contains_any (λ y. same y x) (once same xs) (any_once xs x ∙ any_contains (λ y. same y x) xs a ina s) in
        let apart : differ z x ≡ false = and_second (same z x) (differ z x) zx (any_false (is_other eq key differ x) (once same xs) z none hz) in
        let is : z ≡ x = alike z x zx apart in
        agree a z ina (once_contains same xs z hz) (sym (same_step z x a zx) ∙ s) ∙ is

    -- one more entry, where none of its key differs
    pub agree_push : (xs : List A) (x : A) → Agree same xs → list_any (is_other eq key differ x) (once same xs) ≡ false → Agree same (xs ++ x ∷ [])
    agree_push xs x agree none a b ha hb s =
        elim (Contains-push_cases xs x a ha) [
          | inl ina ↦
              elim (Contains-push_cases xs x b hb) [
                | inl inb ↦ agree a b ina inb s
                | inr bx ↦ agree_with xs x agree none a ina (rw (← bx) at s) ∙ bx
              ]
          | inr ax ↦
              elim (Contains-push_cases xs x b hb) [
                | inl inb ↦ sym (agree_with xs x agree none b inb (laws.symm (key b) (key x) ∙ (rw (← ax) at s)) ∙ ax)
                | inr bx ↦ sym ax ∙ bx
              ]
        ]

    -- entries each once, to which none are joined
    pub copied_same : (xs : List A) (r : Result (List A) PlanFault) → AllPairs (λ x y. same x y ≡ false) xs → IsJoined same differ (xs ++ []) r → MatchResult r (λ copy. copy ≡ xs) (λ fault. fault ≡ NoMemory)
    copied_same xs r apart h =
        MatchResult-weaker r (rw append-nil at h) (λ list joined. joined.0 ∙ once_same xs apart)
        (λ fault why. elim why [ inl lack ↦ lack | inr both ↦ absurd (both_ways _ (no_conflict xs (agree_distinct xs apart)) both.1) ])

    -- ---- one entry, and many in turn

    pub added_there : (valid : A → Type 0) (xs : List A) (place : K → Option ℕ) (x e : A) (i : ℕ) → IsListed eq key valid xs place → place (key x) ≡ Some i → e ≡ get_or xs i e → differ e x ≡ false → (xs ≡ cond (list_any (λ y. same y x) xs) xs (xs ++ x ∷ [])) × (list_any (is_other eq key differ x) xs ≡ false)
    added_there valid xs place x e i h found at apart =
        let here = MatchOption-at_some _ _ i found (h.placed (key x)) in
        let s : same e x ≡ true = rw (← at) at (here.1 e) in
        let ine : Contains xs e = (i, here.0, sym at) in
        let is : e ≡ x = alike e x s apart in (
          rw (any_contains (λ y. same y x) xs e ine s) refl,
          list_any_none (is_other eq key differ x) xs
              (λ k d l.
              false_from_ne_true (is_other eq key differ x (get_or xs k d))
              (λ both.
              let y = get_or xs k d in
              let (sy, dy) = and_parts (same y x) (differ y x) both in
              let iny : Contains xs y = Contains-get_or xs k d l in
              let same_as : y ≡ x = agree_distinct xs h.distinct y e iny ine (rw is sy) ∙ is in
              both_ways _ (itself x) (rw same_as at dy))),
        )

    pub added_new : (valid : A → Type 0) (xs : List A) (place : K → Option ℕ) (x : A) → IsListed eq key valid xs place → place (key x) ≡ None → (xs ++ x ∷ [] ≡ cond (list_any (λ y. same y x) xs) xs (xs ++ x ∷ [])) × (list_any (is_other eq key differ x) xs ≡ false)
    added_new valid xs place x h none =
        let apart = MatchOption-at_none _ _ none (h.placed (key x)) in (
          rw (list_any_none (λ y. same y x) xs apart) refl,
          list_any_none (is_other eq key differ x) xs (λ k d l. and_left (same (get_or xs k d) x) (differ (get_or xs k d) x) (apart k d l)),
        )

    pub joined_more : (old more list new : List A) (i : ℕ) (x : A) → i < length more → x ≡ get_or more i x → list ≡ once same (old ++ take i more) → Agree same (old ++ take i more) → (new ≡ cond (list_any (λ y. same y x) list) list (list ++ x ∷ [])) × (list_any (is_other eq key differ x) list ≡ false) → (new ≡ once same (old ++ take (i + 1) more)) × Agree same (old ++ take (i + 1) more)
    joined_more old more list new i x within at joined agree added =
        let next : old ++ take (i + 1) more ≡ (old ++ take i more) ++ x ∷ [] = rw (take_more more i x within, ← at, append_assoc) refl in
        rw next
        (added.0 ∙ (rw joined (sym (once_more (old ++ take i more) x))), agree_push (old ++ take i more) x agree (rw joined at added.1))

    pub joined_fault : (old more list : List A) (i : ℕ) (x : A) → i < length more → x ≡ get_or more i x → list ≡ once same (old ++ take i more) → list_any (is_other eq key differ x) list ≡ true → has_conflict same differ (old ++ more) ≡ true
    joined_fault old more list i x within at joined other =
        let next : (old ++ take i more) ++ x ∷ [] ≡ old ++ take (i + 1) more = rw (take_more more i x within, ← at, append_assoc) refl in
        let all : (old ++ take (i + 1) more) ++ drop (i + 1) more ≡ old ++ more = rw (append_assoc, take-append-drop) refl in
        let front : has_conflict same differ (old ++ take (i + 1) more) ≡ true = rw next at (conflict_push (old ++ take i more) x (rw joined at other)) in
        rw all at (conflict_more (old ++ take (i + 1) more) (drop (i + 1) more) front)

    -- entries that are refused are refused among more
    pub refused_more : (xs ys : List A) (fault : PlanFault) → IsRefusal same differ xs fault → IsRefusal same differ (xs ++ ys) fault
    refused_more xs ys fault h = elim h [ inl lack ↦ inl lack | inr both ↦ inr (both.0, conflict_more xs ys both.1) ]

-- ---- the entry with the last key that is not after a key

placed_after : (after : Bool) (place : Option ℕ) → (after ≡ false → place ≡ None) → IsSome place → after ≡ true
placed_after true place none some = refl
placed_after false place none some = absurd (both_ways (is_some place) (ap is_some (none refl)) some)

module _ {A K : Type 0} (compare : K → K → Ordering) (total : IsTotalOrder compare) (key : A → K) (entries : List A) (place : K → Option ℕ) (valid : A → Type 0) (h : IsListed (eq_by_cmp compare) key valid entries place) where
  place_some : (e : A) → Contains entries e → (o : Option ℕ) → IsPlaceOfKey (eq_by_cmp compare) key entries (key e) o → IsSome o
  place_some e (j, l, is) None none =
      absurd (both_ways (eq_by_cmp compare (key e) (key e)) (rw is at (none j e l)) ((eq_by_cmp_equiv total).refl (key e)))
  place_some e in' (Some i) at = refl

  -- the key of each entry has a place
  has_place : (e : A) → Contains entries e → IsSome (place (key e))
  has_place e in' = place_some e in' (place (key e)) (h.placed (key e))

  -- where no key up to one has a place, each entry is after it
  pub all_after : (k : K) → ((q : K) → is_gt (compare q k) ≡ false → place q ≡ None) → All (λ e. is_gt (compare (key e) k) ≡ true) entries
  all_after k none j d l =
      let e = get_or entries j d in
      placed_after (is_gt (compare (key e) k)) (place (key e)) (none (key e)) (has_place e (Contains-get_or entries j d l))

  pub last_is : (k q : K) (i : ℕ) (e : A) → place q ≡ Some i → e ≡ get_or entries i e → is_gt (compare q k) ≡ false → ((s : K) → is_gt (compare s k) ≡ false → IsSome (place s) → is_lt (compare q s) ≡ false) → Contains entries e × (is_gt (compare (key e) k) ≡ false) × All (λ s. is_gt (compare (key s) k) ≡ false → is_lt (compare (key e) (key s)) ≡ false) entries
  last_is k q i e found at before last =
      let here = MatchOption-at_some _ _ i found (h.placed q) in
      let one : eq_by_cmp compare (key e) q ≡ true = rw (← at) at (here.1 e) in
      let tied : compare (key e) q ≡ Equal = (Equal-is (compare (key e) q)).0 one in
      let same : (z : K) → compare (key e) z ≡ compare q z = λ z. total.congr (key e) q z tied in (
        (i, here.0, sym at),
        rw (same k) before,
        λ j d l up. rw (same (key (get_or entries j d))) (last (key (get_or entries j d)) up (has_place (get_or entries j d) (Contains-get_or entries j d l))),
      )
