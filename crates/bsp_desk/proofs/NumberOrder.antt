-- Numbers that pass a test, each once.
use Rattle.std.proofs.Common.{◌≡◌, ℕ, ◌&&◌, not, Bool, true, false, cond, List, [], ◌∷◌, refl, sym, ap, ◌∙◌}
use Rattle.std.specs.List.{filter}
use Rattle.std.proofs.lemmas.Bool.{eqb-true}
use Rattle.std.proofs.lemmas.List.Elements.{filter_agree}
use Rattle.bsp_rows.specs.Requests.{once}
use Rattle.bsp_statement.proofs.ListLemmas.{filter_filter}
use Rattle.bsp_desk_sales.specs.Ledger.{same_number}

-- ---- each once among those that pass

swapped : (a b : Bool) → (a && b) ≡ (b && a)
swapped true true = refl
swapped true false = refl
swapped false true = refl
swapped false false = refl

module _ (test : ℕ → Bool) (x : ℕ) where
  abbrev other : ℕ → Bool
  other y = not (same_number x y)

  other_fails : (y : ℕ) → test x ≡ false → (b : Bool) → same_number x y ≡ b → (not b && test y) ≡ test y
  other_fails y fails true same = sym (ap test (sym (eqb-true x y same)) ∙ fails)
  other_fails y fails false same = refl

  filter_step : (rest ones : List ℕ) → filter test ones ≡ once same_number rest → (b : Bool) → test x ≡ b → cond b (x ∷ filter test (filter other ones)) (filter test (filter other ones)) ≡ once same_number (cond b (x ∷ rest) rest)
  filter_step rest ones same true is =
      ap (λ (ys : List ℕ). x ∷ ys) (
      filter_filter other test ones
      ∙ (filter_agree _ _ (λ y. swapped (other y) (test y)) ones
      ∙ (sym (filter_filter test other ones) ∙ ap (filter other) same)))
  filter_step rest ones same false is =
      filter_filter other test ones
      ∙ (filter_agree _ _ (λ y. other_fails y is (same_number x y) refl) ones ∙ same)

pub once_filter : (test : ℕ → Bool) (xs : List ℕ) → filter test (once same_number xs) ≡ once same_number (filter test xs)
once_filter test [] = refl
once_filter test (x ∷ xs) = filter_step test x (filter test xs) (once same_number xs) (once_filter test xs) (test x) refl
