-- Lemmas on lists: the first element that passes a test, and membership.
use Rattle.std.proofs.Common.{◌≡◌, ℕ, zero, suc, ◌<◌, ◌⊎◌, inl, inr, cond, Bool, true, false, List, [], ◌∷◌, Some, None, length, get_or, drop, leb, arith, refl, ◌∙◌, ap}
use Rattle.std.specs.List.{find, All, Contains, filter, list_all, slice_get}
use Rattle.std.proofs.lemmas.List.Folds.{find_at}
use Rattle.std.proofs.lemmas.List.Sums.{position_or_len_is, AllPass-from_list_all, list_all-from_AllPass}
use Rattle.std.proofs.lemmas.Bool.{cases_lt, lt-leb, le-leb}
use Rattle.std.proofs.lemmas.List.{drop_more, drop_all}
use Rattle.bsp_calendar.specs.Requests.{is_empty}
use Rattle.std.proofs.lemmas.List.Elements.{All-filter, All-contains, All-contains_itself, Contains-get_or, filter_passes}
use Rattle.std.proofs.lemmas.Option.{none-some, same_Some, slice_get-get_or, slice_get_past}

-- an element of a list that has a place
pub with_item : {X P : Type 0} (xs : List X) (i : ℕ) → i < length xs → (X → P) → P
with_item [] i h f = absurd (omega arith)
with_item (x ∷ xs) i h f = f x

-- the place of the first that passes
pub find_is : {X : Type 0} (p : X → Bool) (xs : List X) (i : ℕ) (d : X) → i < length xs → ((k : ℕ) → k < i → p (get_or xs k d) ≡ false) → p (get_or xs i d) ≡ true → find p xs ≡ Some (get_or xs i d)
find_is p xs i d within before here =
    find_at p xs ∙ (ap (slice_get xs) (position_or_len_is p xs i d (omega arith) before (λ _. here)) ∙ slice_get-get_or xs i d within)

-- none passes
pub find_none : {X : Type 0} (p : X → Bool) (xs : List X) → ((k : ℕ) (d : X) → k < length xs → p (get_or xs k d) ≡ false) → find p xs ≡ None
find_none p [] h = refl
find_none p (x ∷ xs) h =
    rw (find_at p (x ∷ xs), position_or_len_is p (x ∷ xs) (length (x ∷ xs)) x (omega arith) (λ k l. h k x l) (λ l. absurd (omega arith)), slice_get_past (x ∷ xs) (length (x ∷ xs)) (omega arith)) refl

-- ---- membership

pub contains_head : {X : Type 0} (x : X) (xs : List X) → Contains (x ∷ xs) x
contains_head x xs = (0, omega arith, refl)

pub contains_tail : {X : Type 0} (x : X) (xs : List X) (y : X) → Contains xs y → Contains (x ∷ xs) y
contains_tail x xs y (k, l, is) = (suc k, omega arith, is)

pub contains_cases : {X : Type 0} (x : X) (xs : List X) (y : X) → Contains (x ∷ xs) y → (x ≡ y) ⊎ Contains xs y
contains_cases x xs y (zero, l, is) = inl is
contains_cases x xs y (suc k, l, is) = inr (k, omega arith, is)

pub contains_none : {X P : Type 0} (y : X) → Contains [] y → P
contains_none y (k, l, is) = absurd (omega arith)

contains_cond : {X : Type 0} (b : Bool) (x : X) (xs : List X) (y : X) → Contains xs y → Contains (cond b (x ∷ xs) xs) y
contains_cond true x xs y h = contains_tail x xs y h
contains_cond false x xs y h = h

-- what passes a test, among what does
pub contains_filter : {X : Type 0} (p : X → Bool) (xs : List X) (y : X) → Contains xs y → p y ≡ true → Contains (filter p xs) y
contains_filter p [] y h passes = h
contains_filter p (x ∷ xs) y h passes =
    elim (contains_cases x xs y h) [
      | inl here ↦ rw (here, passes) (contains_head y (filter p xs))
      | inr there ↦ contains_cond (p x) x (filter p xs) y (contains_filter p xs y there passes)
    ]

pub filter_contains : {X : Type 0} (p : X → Bool) (xs : List X) (y : X) → Contains (filter p xs) y → Contains xs y
filter_contains p xs y h = All-contains (Contains xs) (filter p xs) y (All-filter p (Contains xs) xs (All-contains_itself xs)) h

pub filter_holds : {X : Type 0} (p : X → Bool) (xs : List X) (y : X) → Contains (filter p xs) y → p y ≡ true
filter_holds p xs y h = All-contains (λ x. p x ≡ true) (filter p xs) y (filter_passes p xs) h

-- none passes
pub filter_none : {X : Type 0} (p : X → Bool) (xs : List X) → All (λ x. p x ≡ false) xs → filter p xs ≡ []
filter_none p [] h = refl
filter_none p (x ∷ xs) h = rw (h 0 x (omega arith), filter_none p xs (λ k d l. h (suc k) d (omega arith))) refl

-- a test that all pass, and each
pub each_passes : {X : Type 0} (p : X → Bool) (xs : List X) (x : X) → list_all p xs ≡ true → Contains xs x → p x ≡ true
each_passes p xs x h in' = All-contains (λ y. p y ≡ true) xs x (AllPass-from_list_all p xs h) in'

pub all_pass : {X : Type 0} (p : X → Bool) (xs : List X) → ((x : X) → Contains xs x → p x ≡ true) → list_all p xs ≡ true
all_pass p xs h = list_all-from_AllPass p xs (λ k d l. h (get_or xs k d) (Contains-get_or xs k d l))

-- what is found is an element that passes
find_step : {X : Type 0} (p : X → Bool) (x : X) (xs : List X) (y : X) → (find p xs ≡ Some y → Contains xs y × (p y ≡ true)) → (b : Bool) → p x ≡ b → cond b (Some x) (find p xs) ≡ Some y → Contains (x ∷ xs) y × (p y ≡ true)
find_step p x xs y rest true is h = let e : x ≡ y = same_Some x y h in (rw e (contains_head y xs), rw (← e) is)
find_step p x xs y rest false is h = let r = rest h in (contains_tail x xs y r.0, r.1)

pub find_contains : {X : Type 0} (p : X → Bool) (xs : List X) (y : X) → find p xs ≡ Some y → Contains xs y × (p y ≡ true)
find_contains p [] y h = absurd (none-some y h)
find_contains p (x ∷ xs) y h = find_step p x xs y (find_contains p xs y) (p x) refl h

-- ---- a list beyond its first elements

pub is_empty-drop : {X : Type 0} (n : ℕ) (xs : List X) → leb (length xs) n ≡ is_empty (drop n xs)
is_empty-drop n xs =
    elim (cases_lt n (length xs)) [
      | inl more ↦ with_item xs n more (λ d. rw (drop_more xs n d more, lt-leb (length xs) n more) refl)
      | inr none ↦ rw (drop_all n xs none, le-leb (length xs) n none) refl
    ]
