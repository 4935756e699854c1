-- How often a key is among those of a list's values, one value at a time.
use Rattle.std.proofs.Common.{◌≡◌, ◌+◌, ◌≤◌, ℕ, Bool, List, [], ◌∷◌, map, cond, sym, ap, subst, ◌∙◌, arith}
use Rattle.std.specs.Prelude.{count_by}
use Rattle.std.proofs.lemmas.List.Sums.{sum_by-cons}

module _ {X K : Type 0} (f : X → K) (p : K → Bool) where
  pub count_more : (x : X) (key : K) (left rest : List X) → left ≡ x ∷ rest → key ≡ f x → count_by p (map f left) ≡ cond (p key) 1 0 + count_by p (map f rest)
  count_more x key left rest is own =
      ap (λ xs. count_by p (map f xs)) is ∙ sum_by-cons (λ k. cond (p k) 1 0) (f x) (map f rest) ∙ ap (λ k. cond (p k) 1 0 + count_by p (map f rest)) (sym own)

  pub count_end : (left : List X) (here total limit : ℕ) → left ≡ [] → here + count_by p (map f left) ≡ total → here ≤ limit → total ≤ limit
  count_end left here total limit none counted within =
      let all : here + 0 ≡ total = ap (λ xs. here + count_by p (map f xs)) (sym none) ∙ counted in
      omega arith
