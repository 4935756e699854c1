-- A list with its places, and what comes next in it.
use Rattle.std.proofs.Common.{[], ◌++◌, ◌+◌, ◌<◌, ◌∙◌, ◌∷◌, ◌≡◌, ap, arith, get_or, length, List, refl, sym, take, ℕ}
use Rattle.std.proofs.lemmas.List.{length-take-le, take_more}
use Rattle.bsp_store_columns.specs.Values.{placed}

pub placed_last : {A : Type 0} (before : ℕ) (xs : List A) (x : A) → placed before (xs ++ x ∷ []) ≡ placed before xs ++ (before + (length xs + 1), x) ∷ []
placed_last before [] x = refl
placed_last before (y ∷ xs) x =
    let same : before + 1 + (length xs + 1) ≡ before + (length (y ∷ xs) + 1) = omega arith in
    ap (λ l. (before + 1, y) ∷ l) (placed_last (before + 1) xs x ∙ ap (λ (n : ℕ). placed (before + 1) xs ++ (n, x) ∷ []) same)

-- counted from 1
pub placed_next : {A : Type 0} (xs : List A) (x : A) → placed 0 (xs ++ x ∷ []) ≡ placed 0 xs ++ (length xs + 1, x) ∷ []
placed_next xs x =
    let same : 0 + (length xs + 1) ≡ length xs + 1 = omega arith in
    placed_last 0 xs x ∙ ap (λ (n : ℕ). placed 0 xs ++ (n, x) ∷ []) same

-- one element more is taken
pub one_more : {A : Type 0} (xs : List A) (i : ℕ) (x : A) → i < length xs → x ≡ get_or xs i x → take i xs ++ x ∷ [] ≡ take (i + 1) xs
one_more xs i x below is = ap (λ y. take i xs ++ y ∷ []) is ∙ sym (take_more xs i x below)

pub placed_taken : {A : Type 0} (xs : List A) (i : ℕ) (x : A) → i < length xs → x ≡ get_or xs i x → placed 0 (take (i + 1) xs) ≡ placed 0 (take i xs) ++ (i + 1, x) ∷ []
placed_taken xs i x below is =
    ap (placed 0) (sym (one_more xs i x below is)) ∙ placed_next (take i xs) x ∙ ap (λ (n : ℕ). placed 0 (take i xs) ++ (n + 1, x) ∷ []) (length-take-le i xs (omega arith))

-- the place of the next one
pub next_place : {A : Type 0} (xs : List A) (i : ℕ) → i < length xs → i + 1 ≡ length (take i xs) + 1
next_place xs i below = ap (λ (n : ℕ). n + 1) (sym (length-take-le i xs (omega arith)))
