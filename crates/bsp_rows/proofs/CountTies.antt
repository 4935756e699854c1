-- How many of a list pass a test, and which they are.
use Rattle.std.proofs.Common.{◌≡◌, ℕ, ◌+◌, ◌≤◌, Bool, true, false, ◌&&◌, ◌||◌, cond, List, [], ◌∷◌, ◌++◌, map, count_by, Option, Some, None, refl, sym, ap, subst, ◌∙◌, arith, inl, inr, Ordering, Less}
use Rattle.std.specs.Bool.{Decides}
use Rattle.std.specs.List.{Contains, filter_map}
use Rattle.std.specs.Ordering.{eq_by_cmp, is_eq}
use Rattle.std.specs.Cmp.{IsTotalOrder, tied_itself}
use Rattle.std.specs.BTreeMap.{BTreeMap, IsOrdered}
use Rattle.std.specs.FinMap.{IsAntisymmetric, entries, entries_sorted, is_sorted}
use Rattle.std.specs.FinMap.Entries.{below_all}
use Rattle.std.proofs.lemmas.Bool.{and_parts, both_ways, false_from_ne_true}
use Rattle.std.proofs.lemmas.List.Sums.{sum_by-append}
use Rattle.bsp_calendar.proofs.ListLemmas.{contains_head, contains_tail, contains_cases, contains_none}
use Rattle.bsp_rows.specs.Audit.{as_map}
use Rattle.bsp_rows.proofs.DemandLemmas.{same_entries}
use Rattle.bsp_rows.proofs.MapLemmas.{below_contains, counted, is_true, same_key}

-- ---- counts of changed lists

pub count_mapped : {A B : Type 0} (p : B → Bool) (f : A → B) (xs : List A) → count_by p (map f xs) ≡ count_by (λ x. p (f x)) xs
count_mapped p f [] = refl
count_mapped p f (x ∷ xs) = counted p (f x) (map f xs) ∙ (ap (λ (n : ℕ). cond (p (f x)) 1 0 + n) (count_mapped p f xs) ∙ sym (counted (λ y. p (f y)) x xs))

-- the value that is there passes
abbrev pub passes_if_there : {B : Type 0} → (B → Bool) → Option B → Bool
passes_if_there p None = false
passes_if_there p (Some y) = p y

abbrev option_front : {B : Type 0} → Option B → List B → List B
option_front None rest = rest
option_front (Some y) rest = y ∷ rest

filter_map_step : {A B : Type 0} (p : B → Bool) (f : A → Option B) (xs : List A) (o : Option B) → (rest : List B) → count_by p rest ≡ count_by (λ x. passes_if_there p (f x)) xs → count_by p (option_front o rest) ≡ cond (passes_if_there p o) 1 0 + count_by (λ x. passes_if_there p (f x)) xs
filter_map_step p f xs None rest h = h ∙ omega arith
filter_map_step p f xs (Some y) rest h = counted p y rest ∙ ap (λ (n : ℕ). cond (p y) 1 0 + n) h

pub count_filter_map : {A B : Type 0} (p : B → Bool) (f : A → Option B) (xs : List A) → count_by p (filter_map f xs) ≡ count_by (λ x. passes_if_there p (f x)) xs
count_filter_map p f [] = refl
count_filter_map p f (x ∷ xs) = filter_map_step p f xs (f x) (filter_map f xs) (count_filter_map p f xs) ∙ sym (counted (λ y. passes_if_there p (f y)) x xs)

pub count_alike : {A : Type 0} (p q : A → Bool) (xs : List A) → ((x : A) → Contains xs x → p x ≡ q x) → count_by p xs ≡ count_by q xs
count_alike p q [] alike = refl
count_alike p q (x ∷ xs) alike =
    counted p x xs
    ∙ ((λ i. cond (alike x (contains_head x xs) i) 1 0 + count_alike p q xs (λ y in'. alike y (contains_tail x xs y in')) i)
    ∙ sym (counted q x xs))

pub count_append : {A : Type 0} (p : A → Bool) (xs ys : List A) → count_by p (xs ++ ys) ≡ count_by p xs + count_by p ys
count_append p xs ys = sum_by-append (λ x. cond (p x) 1 0) xs ys

two_counted : (p q : Bool) → cond p 1 0 + cond q 1 0 ≡ cond (p || q) 1 0 + cond (p && q) 1 0
two_counted true true = refl
two_counted true false = refl
two_counted false true = refl
two_counted false false = refl

-- what passes either test, and what passes both
pub count_two : {A : Type 0} (p q : A → Bool) (xs : List A) → count_by p xs + count_by q xs ≡ count_by (λ x. p x || q x) xs + count_by (λ x. p x && q x) xs
count_two p q [] = refl
count_two p q (x ∷ xs) =
    let rest = count_two p q xs in
    let both = two_counted (p x) (q x) in
    omega (arith, rest, both, counted p x xs, counted q x xs, counted (λ y. p y || q y) x xs, counted (λ y. p y && q y) x xs)

-- ---- none, one, few

pub none_counted : {A : Type 0} (p : A → Bool) (xs : List A) → ((x : A) → Contains xs x → p x ≡ false) → count_by p xs ≡ 0
none_counted p [] none = refl
none_counted p (x ∷ xs) none =
    counted p x xs ∙ ((λ i. cond (none x (contains_head x xs) i) 1 0 + none_counted p xs (λ y in'. none y (contains_tail x xs y in')) i) ∙ omega arith)

at_least_by : {A : Type 0} (p : A → Bool) (x : A) (xs : List A) (a : A) → (Contains xs a → 1 ≤ count_by p xs) → Contains (x ∷ xs) a → p a ≡ true → 1 ≤ count_by p (x ∷ xs)
at_least_by p x xs a rest in' passes =
    let c = counted p x xs in
    elim (contains_cases x xs a in') [
      | inl here ↦ (let one : ◌≡◌ {A = ℕ} (cond (p x) 1 0) 1 = ap (λ b. cond b 1 0) (ap p here ∙ passes) in omega (arith, c, one))
      | inr there ↦ (let some = rest there in omega (arith, c, some))
    ]

at_least : {A : Type 0} (p : A → Bool) (xs : List A) (a : A) → Contains xs a → p a ≡ true → 1 ≤ count_by p xs
at_least p [] a in' passes = contains_none a in'
at_least p (x ∷ xs) a in' passes = at_least_by p x xs a (λ there. at_least p xs a there passes) in' passes

one_by : {A : Type 0} (p : A → Bool) (x : A) (xs : List A) → count_by p (x ∷ xs) ≤ 1 → (a b : A) → Contains (x ∷ xs) a → Contains (x ∷ xs) b → p a ≡ true → p b ≡ true → (count_by p xs ≤ 1 → Contains xs a → Contains xs b → a ≡ b) → (here : Bool) → p x ≡ here → a ≡ b
one_by p x xs few a b ia ib pa pb rest true is =
    let c = counted p x xs in
    let one : ◌≡◌ {A = ℕ} (cond (p x) 1 0) 1 = ap (λ t. cond t 1 0) is in
    elim (contains_cases x xs a ia) [
      | inl a_here ↦ elim (contains_cases x xs b ib) [
        | inl b_here ↦ sym a_here ∙ b_here
        | inr there ↦ (let more = at_least p xs b there pb in absurd (omega (arith, c, one, few, more)))
      ]
      | inr there ↦ (let more = at_least p xs a there pa in absurd (omega (arith, c, one, few, more)))
    ]
one_by p x xs few a b ia ib pa pb rest false is =
    let c = counted p x xs in
    elim (contains_cases x xs a ia) [
      | inl here ↦ absurd (both_ways (p x) is (ap p here ∙ pa))
      | inr a_there ↦ elim (contains_cases x xs b ib) [
        | inl here ↦ absurd (both_ways (p x) is (ap p here ∙ pb))
        | inr b_there ↦ rest (omega (arith, c, few)) a_there b_there
      ]
    ]

-- where at most one passes, two that pass are one
pub one_passes : {A : Type 0} (p : A → Bool) (xs : List A) → count_by p xs ≤ 1 → (a b : A) → Contains xs a → Contains xs b → p a ≡ true → p b ≡ true → a ≡ b
one_passes p [] few a b ia ib pa pb = contains_none a ia
one_passes p (x ∷ xs) few a b ia ib pa pb = one_by p x xs few a b ia ib pa pb (λ less a_there b_there. one_passes p xs less a b a_there b_there pa pb) (p x) refl

-- ---- entries in order

pub not_itself : {K : Type 0} {R : K → K → Ordering} (o : IsTotalOrder R) (k : K) → R k k ≡ Less → ⊥
not_itself o k h = absurd (cc (sym h ∙ tied_itself o k))

pub key_decides : {K : Type 0} {R : K → K → Ordering} (o : IsTotalOrder R) (exact : IsAntisymmetric R) (k x : K) → Decides (eq_by_cmp R k x) (k ≡ x)
key_decides {R = R} o exact k x = (same_key exact k x, (λ e. subst (λ y. eq_by_cmp R k y ≡ true) e (ap is_eq (tied_itself o k))))

module _ {K X : Type 0} {R : K → K → Ordering} (o : IsTotalOrder R) (exact : IsAntisymmetric R) where
  few_by : (p : K × X → Bool) (e : K × X) (es : List (K × X)) → below_all R e.0 es ≡ true → ((a b : K × X) → Contains (e ∷ es) a → Contains (e ∷ es) b → p a ≡ true → p b ≡ true → a ≡ b) → count_by p es ≤ 1 → (here : Bool) → p e ≡ here → count_by p (e ∷ es) ≤ 1
  few_by p e es below alike rest true is =
      let c = counted p e es in
      let one : ◌≡◌ {A = ℕ} (cond (p e) 1 0) 1 = ap (λ t. cond t 1 0) is in
      let none : count_by p es ≡ 0 = none_counted p es (λ x in'. false_from_ne_true (p x) (λ passes. not_itself o e.0 (subst (λ (y : K × X). R e.0 y.0 ≡ Less) (alike x e (contains_tail e es x in') (contains_head e es) passes is) (below_contains o exact e.0 es x below in')))) in
      omega (arith, c, one, none)
  few_by p e es below alike rest false is =
      let c = counted p e es in
      let zero' : ◌≡◌ {A = ℕ} (cond (p e) 1 0) 0 = ap (λ t. cond t 1 0) is in
      omega (arith, c, zero', rest)

  few_sorted : (p : K × X → Bool) (es : List (K × X)) → is_sorted R es ≡ true → ((a b : K × X) → Contains es a → Contains es b → p a ≡ true → p b ≡ true → a ≡ b) → count_by p es ≤ 1
  few_sorted p [] sorted alike = omega arith
  few_sorted p (e ∷ es) sorted alike =
      let both = and_parts (below_all R e.0 es) (is_sorted R es) sorted in
      few_by p e es both.0 alike (few_sorted p es both.1 (λ a b ia ib. alike a b (contains_tail e es a ia) (contains_tail e es b ib))) (p e) refl

  -- where all that pass are one entry, at most one passes
  pub few_entries : (m : BTreeMap K X) → IsOrdered R m → (p : K × X → Bool) → ((a b : K × X) → Contains m.entries a → Contains m.entries b → p a ≡ true → p b ≡ true → a ≡ b) → count_by p m.entries ≤ 1
  few_entries m ordered p alike =
      let same : entries (as_map R m) ≡ m.entries = same_entries o exact m ordered in
      few_sorted p m.entries (subst (λ (es : List (K × X)). is_sorted R es ≡ true) same (is_true _ (entries_sorted (as_map R m)))) alike
