-- Rows in another order.
use Rattle.std.proofs.Common.{◌∙◌, sym, ◌≡◌, ℕ, zero, suc, ◌<◌, Bool, true, false, cond, List, [], ◌∷◌, ◌++◌, map, filter, flat_map, length, get_or, set, swap, ap, refl, arith, append_assoc, IsPermutation}
use Rattle.std.proofs.lemmas.List.Sorted.{IsPermutation-refl, IsPermutation-keeps, IsPermutation-trans, IsPermutation-append, IsPermutation-append_left, IsPermutation-append_right, IsPermutation-append_comm, IsPermutation-map}
use Rattle.std.specs.Prelude.{ℤ, ◌+ℤ◌}
use Rattle.std.proofs.lemmas.Int.{ints}
use Rattle.bsp_rules.specs.declared.rows.Item.{Item}
use Rattle.bsp_memos.specs.declared.fields.MemoFields.{MemoFields}
use Rattle.bsp_memos.specs.Owed.{is_billed_in}
use Rattle.bsp_statement.specs.declared.posting.Posting.{Posting}
use Rattle.bsp_statement.specs.Nets.{net_of_postings}
use Rattle.bsp_statement.proofs.SumLemmas.{sums, sums-cons}
use Rattle.bsp_statement.proofs.NetLemmas.{net_of_posting, net_is_sum}
use Rattle.bsp_statement.specs.Postings.{is_counted, item_posting, memo_posting, postings}

filter_as_flat_map : {A : Type 0} (p : A → Bool) (xs : List A) → filter p xs ≡ flat_map (λ x. cond (p x) (x ∷ []) []) xs
filter_as_flat_map p [] = refl
filter_as_flat_map p (x ∷ xs) =
    elim (p x) as (λ b. cond b (x ∷ filter p xs) (filter p xs) ≡ cond b (x ∷ []) [] ++ flat_map (λ y. cond (p y) (y ∷ []) []) xs)
    [ true ↦ ap (λ l. x ∷ l) (filter_as_flat_map p xs) | false ↦ filter_as_flat_map p xs ]

-- a relation that is reflexive and transitive, and goes under a head and over an exchange of two heads, holds along each permutation
module _ {X : Type 0} (R : List X → List X → Type 0) (same : (xs : List X) → R xs xs)
    (skip : (x : X) (xs ys : List X) → R xs ys → R (x ∷ xs) (x ∷ ys))
    (turn : (x y : X) (xs : List X) → R (x ∷ y ∷ xs) (y ∷ x ∷ xs))
    (chain : (xs ys zs : List X) → R xs ys → R ys zs → R xs zs) where
  to_head : (l : List X) (j : ℕ) (x d : X) → j < length l → R (x ∷ l) (get_or l j d ∷ set l j x)
  to_head [] j x d h = absurd (omega arith)
  to_head (y ∷ l) zero x d h = turn x y l
  to_head (y ∷ l) (suc j) x d h =
      chain _ _ _ (turn x y l) (chain _ _ _ (skip y _ _ (to_head l j x d (omega arith))) (turn y (get_or l j d) (set l j x)))

  exchanged : (l : List X) (i j : ℕ) (d : X) → i < length l → j < length l → R l (set (set l i (get_or l j d)) j (get_or l i d))
  exchanged [] i j d p q = absurd (omega arith)
  exchanged (x ∷ l) zero zero d p q = same (x ∷ l)
  exchanged (x ∷ l) zero (suc j) d p q = to_head l j x d (omega arith)
  exchanged (x ∷ l) (suc i) zero d p q = to_head l i x d (omega arith)
  exchanged (x ∷ l) (suc i) (suc j) d p q = skip x _ _ (exchanged l i j d (omega arith) (omega arith))

  swapped : (l : List X) (i j : ℕ) → i < length l → j < length l → R l (swap l i j)
  swapped [] i j p q = same []
  swapped (x ∷ l) i j p q = exchanged (x ∷ l) i j x p q

  pub along_permutation : (xs ys : List X) → IsPermutation xs ys → R xs ys
  along_permutation xs = IsPermutation-keeps xs (R xs) (same xs) (λ l i j p q h. chain xs l _ h (swapped l i j p q))

pub IsPermutation-flat_map : {A B : Type 0} (f : A → List B) (xs ys : List A) → IsPermutation xs ys → IsPermutation (flat_map f xs) (flat_map f ys)
IsPermutation-flat_map f = along_permutation (λ xs ys. IsPermutation (flat_map f xs) (flat_map f ys))
    (λ xs. IsPermutation-refl _)
    (λ x xs ys h. IsPermutation-append_right (f x) _ _ h)
    (λ x y xs. rw (← append_assoc (f x), ← append_assoc (f y)) (IsPermutation-append_left (flat_map f xs) _ _ (IsPermutation-append_comm (f x) (f y))))
    (λ xs ys zs. IsPermutation-trans _ _ _)

pub IsPermutation-filter : {A : Type 0} (p : A → Bool) (xs ys : List A) → IsPermutation xs ys → IsPermutation (filter p xs) (filter p ys)
IsPermutation-filter p xs ys h = rw (filter_as_flat_map p xs, filter_as_flat_map p ys) (IsPermutation-flat_map _ xs ys h)

-- what passes two tests, of items and of memos
pub both_permuted : {A B C : Type 0} (f : A → C) (g : B → C) (p : A → Bool) (q : B → Bool) (xs ys : List A) (us vs : List B) → IsPermutation xs ys → IsPermutation us vs → IsPermutation (map f (filter p xs) ++ map g (filter q us)) (map f (filter p ys) ++ map g (filter q vs))
both_permuted f g p q xs ys us vs first second =
    IsPermutation-append _ _ _ _ (IsPermutation-map f _ _ (IsPermutation-filter p xs ys first)) (IsPermutation-map g _ _ (IsPermutation-filter q us vs second))

pub postings_permuted : (period : ℕ) (items others : List Item) (memos other_memos : List MemoFields) → IsPermutation items others → IsPermutation memos other_memos → IsPermutation (postings period items memos) (postings period others other_memos)
postings_permuted period items others memos other_memos = both_permuted item_posting memo_posting (is_counted period) (is_billed_in period) items others memos other_memos

-- ---- sums

turned : (a b c : ℤ) → a +ℤ (b +ℤ c) ≡ b +ℤ (a +ℤ c)
turned a b c = omega (arith, ints)

pub sums_permuted : {R : Type 0} (f : R → ℤ) (xs ys : List R) → IsPermutation xs ys → sums f xs ≡ sums f ys
sums_permuted f = along_permutation (λ xs ys. sums f xs ≡ sums f ys)
    (λ xs. refl)
    (λ x xs ys h. sums-cons f x xs ∙ ap (λ (n : ℤ). f x +ℤ n) h ∙ sym (sums-cons f x ys))
    (λ x y xs.
    sums-cons f x (y ∷ xs) ∙ ap (λ (n : ℤ). f x +ℤ n) (sums-cons f y xs) ∙ turned (f x) (f y) (sums f xs)
    ∙ ap (λ (n : ℤ). f y +ℤ n) (sym (sums-cons f x xs)) ∙ sym (sums-cons f y (x ∷ xs)))
    (λ xs ys zs first second. first ∙ second)

pub net_permuted : (rows others : List Posting) → IsPermutation rows others → net_of_postings rows ≡ net_of_postings others
net_permuted rows others same = net_is_sum rows ∙ sums_permuted net_of_posting rows others same ∙ sym (net_is_sum others)
