-- Where the entries of a window are.
use Rattle.std.proofs.Common.{◌≡◌, Bool, true, false, cond, ◌&&◌, ◌||◌, List, [], ◌∷◌, ◌++◌, map, append_assoc, refl, sym, ap, ◌∙◌, Ordering, Less}
use Rattle.std.specs.List.{filter, list_any, AllByRecursion}
use Rattle.std.specs.List.Sorted.{IsStrictlySortedBy}
use Rattle.std.specs.Map.{keys_of}
use Rattle.std.specs.Ordering.{is_le}
use Rattle.std.specs.BTreeMap.Range.{range_contains, entries_between}
use Rattle.std.specs.declared.ops.Bound.TheVariants.{Included, Unbounded}
use Rattle.bsp_maps.specs.Windows.{entries_in}

-- the entries from the front on whose keys are in the window
abbrev pub front : {K V : Type 0} → (K → Bool) → List (K × V) → List (K × V)
front has [] = []
front has (e ∷ es) = cond (has e.0) (e ∷ front has es) []

no_more : {K : Type 0} (R : K → K → Ordering) (has from : K → Bool) → ((x y : K) → from x ≡ true → R x y ≡ Less → has y ≡ true → has x ≡ true) → (x y : K) (b : Bool) → has y ≡ b → from x ≡ true → has x ≡ false → R x y ≡ Less → b ≡ false
no_more R has from together x y true is f n up = absurd (cc (together x y f up is))
no_more R has from together x y false is f n up = refl

module _ {K V : Type 0} (R : K → K → Ordering) (has from : K → Bool) where
  -- behind a key that is not in the window, none is
  behind : (x : K) (es : List (K × V)) → AllByRecursion (λ y. R x y ≡ Less) (keys_of es) → ((y : K) → R x y ≡ Less → has y ≡ false) → entries_in has es ≡ []
  behind x [] up none = refl
  behind x (e ∷ es) up none = rw (none e.0 up.0) (behind x es up.1 none)

  module _ (lowest : (k : K) → has k ≡ true → from k ≡ true) (together : (x y : K) → from x ≡ true → R x y ≡ Less → has y ≡ true → has x ≡ true) where
    step : (e : K × V) (es : List (K × V)) (f i : Bool) → from e.0 ≡ f → has e.0 ≡ i → AllByRecursion (λ y. R e.0 y ≡ Less) (keys_of es) → front has (filter (λ e. from e.0) es) ≡ entries_in has es
        → front has (cond f (e ∷ filter (λ e. from e.0) es) (filter (λ e. from e.0) es)) ≡ cond i (e ∷ entries_in has es) (entries_in has es)
    step e es true true f i up rest = rw i (ap (λ vs. e ∷ vs) rest)
    step e es true false f i up rest = rw i (sym (behind e.0 es up (λ y less. no_more R has from together e.0 y (has y) refl f i less)))
    step e es false true f i up rest = absurd (cc (lowest e.0 i))
    step e es false false f i up rest = rest

    -- they are in front of those that are not below the lowest
    pub in_front : (es : List (K × V)) → IsStrictlySortedBy R (keys_of es) → front has (filter (λ e. from e.0) es) ≡ entries_in has es
    unfolding IsStrictlySortedBy
    in_front [] up = refl
    in_front (e ∷ es) up = step e es (from e.0) (has e.0) refl refl up.0 (in_front es up.1)

and_true : (a : Bool) → (a && true) ≡ a
and_true true = refl
and_true false = refl

pub from_low : {K V : Type 0} (R : K → K → Ordering) (has : K → Bool) (low : K) → ((k : K) → has k ≡ true → is_le (R low k) ≡ true) → ((x y : K) → is_le (R low x) ≡ true → R x y ≡ Less → has y ≡ true → has x ≡ true)
    → (es : List (K × V)) → IsStrictlySortedBy R (keys_of es) → front has (entries_between R (Included low) Unbounded es) ≡ entries_in has es
from_low R has low lowest together es up = in_front R has (range_contains R (Included low) Unbounded)
    (λ k is. and_true (is_le (R low k)) ∙ lowest k is)
    (λ x y f. together x y (sym (and_true (is_le (R low x))) ∙ f)) es up

-- ---- one entry after another

-- what is found and what is read of the rest stay the same list: an item more is found, or none
pub more_found : {E X : Type 0} (reads : List E → List X) (found after : List X) (x : X) (es rest : List E) (all : List X) → reads es ≡ x ∷ reads rest → after ≡ found ++ x ∷ [] → found ++ reads es ≡ all → after ++ reads rest ≡ all
more_found reads found after x es rest all more pushed so_far = rw (pushed, append_assoc) (rw more at so_far)

pub none_found : {E X : Type 0} (reads : List E → List X) (found : List X) (es rest : List E) (all : List X) → reads es ≡ reads rest → found ++ reads es ≡ all → found ++ reads rest ≡ all
none_found reads found es rest all same so_far = rw same at so_far

pub front_in : {K V : Type 0} (has : K → Bool) (e : K × V) (es rest : List (K × V)) → es ≡ e ∷ rest → has e.0 ≡ true → front has es ≡ e ∷ front has rest
front_in has e es rest first is = rw (first, is) refl

module _ {K V : Type 0} (has : K → Bool) (passes : V → Bool) where
  abbrev chosen_of : List (K × V) → List V
  chosen_of es = filter passes (map (λ e. e.1) (front has es))

  pub chosen_more : (found after : List V) (e : K × V) (es rest : List (K × V)) (all : List V) → es ≡ e ∷ rest → has e.0 ≡ true → passes e.1 ≡ true → after ≡ found ++ e.1 ∷ [] → found ++ chosen_of es ≡ all → after ++ chosen_of rest ≡ all
  chosen_more found after e es rest all first is passed = more_found chosen_of found after e.1 es rest all (rw (first, is, passed) refl)

  pub chosen_none : (found : List V) (e : K × V) (es rest : List (K × V)) (all : List V) → es ≡ e ∷ rest → has e.0 ≡ true → passes e.1 ≡ false → found ++ chosen_of es ≡ all → found ++ chosen_of rest ≡ all
  chosen_none found e es rest all first is refused = none_found chosen_of found es rest all (rw (first, is, refused) refl)

-- ---- whether there is one

abbrev has_some : {A : Type 0} → List A → Bool
has_some [] = false
has_some (x ∷ xs) = true

any_more : {A : Type 0} (p : A → Bool) (x : A) (xs : List A) (b : Bool) → p x ≡ b → list_any p xs ≡ has_some (filter p xs) → (b || list_any p xs) ≡ has_some (cond b (x ∷ filter p xs) (filter p xs))
any_more p x xs true is h = refl
any_more p x xs false is h = h

any_passing : {A : Type 0} (p : A → Bool) (xs : List A) → list_any p xs ≡ has_some (filter p xs)
any_passing p [] = refl
any_passing p (x ∷ xs) = any_more p x xs (p x) refl (any_passing p xs)

some_in_front : {K V : Type 0} (has : K → Bool) (e : K × V) (es : List (K × V)) (b : Bool) → has_some (cond b (e ∷ front has es) []) ≡ b
some_in_front has e es true = refl
some_in_front has e es false = refl

module _ {K V : Type 0} (has : K → Bool) (es : List (K × V)) where
  -- no entry is from the lowest on
  pub none_in : (fs : List (K × V)) → front has fs ≡ entries_in has es → fs ≡ [] → false ≡ list_any (λ e. has e.0) es
  none_in fs is none = ap has_some (sym (ap (front has) none) ∙ is) ∙ sym (any_passing (λ e. has e.0) es)

  -- the first from the lowest on is in the window, or none is
  pub first_decides : (fs rest : List (K × V)) (e : K × V) → front has fs ≡ entries_in has es → fs ≡ e ∷ rest → has e.0 ≡ list_any (λ e. has e.0) es
  first_decides fs rest e is first = sym (some_in_front has e rest (has e.0)) ∙ ap has_some (sym (ap (front has) first) ∙ is) ∙ sym (any_passing (λ e. has e.0) es)
