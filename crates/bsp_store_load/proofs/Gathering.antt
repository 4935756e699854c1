-- Pairs of keys and values that are gathered from a list into a map.
use Rattle.bsp_store_base.proofs.Std.{[], ◌++◌, ◌∙◌, ◌∷◌, ◌≡◌, ◌⊎◌, ap, Bool, cond, Contains, empty, eq_by_cmp, false, FinMap, get, get-empty, get-insert, inl, inr, is_some, IsAntisymmetric, IsTotalOrder, List, None, Option, Ordering, refl, same_map, Some, sym, true}
use Rattle.bsp_store_base.proofs.Entries.{contains_cases, contains_head, contains_none, contains_tail, get_written, same_key, same_Some}
use Rattle.bsp_store_load.specs.Stored.{gathered, with_pair}

-- an element that gives this pair
abbrev pub Gives : {A K V : Type 0} → (A → Option (K × V)) → List A → K → V → Type 0
Gives {A} f xs k v = (x : A) × Contains xs x × (f x ≡ Some (k, v))

module _ {A K V : Type 0} {R : K → K → Ordering} (f : A → Option (K × V)) where
  -- one element more
  pub gathered_last : (xs : List A) (x : A) (m : FinMap R V) → gathered f (xs ++ x ∷ []) m ≡ with_pair (f x) (gathered f xs m)
  gathered_last [] x m = refl
  gathered_last (y ∷ xs) x m = gathered_last xs x (with_pair (f y) m)

  module _ (o : IsTotalOrder R) (exact : IsAntisymmetric R) where
    -- ---- what is found was given

    of_pair : (pair : Option (K × V)) (m : FinMap R V) (q : K) (v : V) → get (with_pair pair m) q ≡ Some v → (pair ≡ Some (q, v)) ⊎ (get m q ≡ Some v)
    of_pair None m q v found = inr found
    of_pair (Some e) m q v found = at (eq_by_cmp R q e.0) refl (sym (get-insert o m e.0 e.1 q) ∙ found)
      where
        at : (b : Bool) → eq_by_cmp R q e.0 ≡ b → cond b (Some e.1) (get m q) ≡ Some v → (Some e ≡ Some (q, v)) ⊎ (get m q ≡ Some v)
        at true tie is = let key = sym (same_key exact q e.0 tie) in let value = same_Some e.1 v is in inl (λ i. Some (key i, value i))
        at false tie is = inr is

    here_or_before : (x : A) (xs : List A) (m : FinMap R V) (q : K) (v : V) → (f x ≡ Some (q, v)) ⊎ (get m q ≡ Some v) → Gives f (x ∷ xs) q v ⊎ (get m q ≡ Some v)
    here_or_before x xs m q v (inl here) = inl (x, contains_head x xs, here)
    here_or_before x xs m q v (inr before) = inr before

    later_or_now : (x : A) (xs : List A) (m : FinMap R V) (q : K) (v : V) → Gives f xs q v ⊎ (get (with_pair (f x) m) q ≡ Some v) → Gives f (x ∷ xs) q v ⊎ (get m q ≡ Some v)
    later_or_now x xs m q v (inl later) = inl (later.0, contains_tail x xs later.0 later.1, later.2)
    later_or_now x xs m q v (inr now) = here_or_before x xs m q v (of_pair (f x) m q v now)

    gathered_from : (xs : List A) (m : FinMap R V) (q : K) (v : V) → get (gathered f xs m) q ≡ Some v → Gives f xs q v ⊎ (get m q ≡ Some v)
    gathered_from [] m q v found = inr found
    gathered_from (x ∷ xs) m q v found = later_or_now x xs m q v (gathered_from xs (with_pair (f x) m) q v found)

    given : (xs : List A) (q : K) (v : V) → Gives f xs q v ⊎ (get (empty {X = V} {R = R}) q ≡ Some v) → Gives f xs q v
    given xs q v (inl found) = found
    given xs q v (inr none) = let no = get-empty {X = V} R q in absurd (cc (none, no))

    -- ---- what is given is found

    stays : (pair : Option (K × V)) (m : FinMap R V) (q : K) → is_some (get m q) ≡ true → is_some (get (with_pair pair m) q) ≡ true
    stays None m q there = there
    stays (Some e) m q there = ap is_some (get-insert o m e.0 e.1 q) ∙ at (eq_by_cmp R q e.0)
      where
        at : (b : Bool) → is_some (cond b (Some e.1) (get m q)) ≡ true
        at true = refl
        at false = there

    all_stay : (xs : List A) (m : FinMap R V) (q : K) → is_some (get m q) ≡ true → is_some (get (gathered f xs m) q) ≡ true
    all_stay [] m q there = there
    all_stay (x ∷ xs) m q there = all_stay xs (with_pair (f x) m) q (stays (f x) m q there)

    put_there : (pair : Option (K × V)) (m : FinMap R V) (k : K) (v : V) → pair ≡ Some (k, v) → is_some (get (with_pair pair m) k) ≡ true
    put_there pair m k v is = ap (λ p. is_some (get (with_pair p m) k)) is ∙ ap is_some (get_written o exact m k v)

    gathered_there : (xs : List A) (m : FinMap R V) (x : A) (k : K) (v : V) → Contains xs x → f x ≡ Some (k, v) → is_some (get (gathered f xs m) k) ≡ true
    gathered_there [] m x k v has is = contains_none x has
    gathered_there (y ∷ xs) m x k v has is =
        elim (contains_cases y xs x has) [
          | inl here ↦ all_stay xs (with_pair (f y) m) k (put_there (f y) m k v (ap f here ∙ is))
          | inr there ↦ gathered_there xs (with_pair (f y) m) x k v there is
        ]

    -- ---- so the map is any that has the pairs that are given, and no other

    module _ (xs : List A) (n : FinMap R V) (sound : (x : A) (k : K) (v : V) → Contains xs x → f x ≡ Some (k, v) → get n k ≡ Some v) (complete : (k : K) (v : V) → get n k ≡ Some v → Gives f xs k v) where
      none_too : (q : K) (r : Option V) → get n q ≡ r → get {R = R} (gathered f xs empty) q ≡ None → None ≡ r
      none_too q None is none = refl
      none_too q (Some v) is none =
          let g = complete q v is in
          let there = gathered_there xs empty g.0 q v g.1 g.2 in
          let absent : is_some (get (gathered f xs empty) q) ≡ false = ap is_some none in
          absurd (cc (there, absent))

      at : (q : K) (r : Option V) → get {R = R} (gathered f xs empty) q ≡ r → r ≡ get n q
      at q None is = none_too q (get n q) refl is
      at q (Some v) is = let g = given xs q v (gathered_from xs empty q v is) in sym (sound g.0 q v g.1 g.2)

      pub gathered_is : gathered f xs empty ≡ n
      gathered_is = same_map o exact _ _ (λ q. at q (get {R = R} (gathered f xs empty) q) refl)
