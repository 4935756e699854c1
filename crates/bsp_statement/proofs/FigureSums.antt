-- Sums over the rows of codes.
use Rattle.std.proofs.Common.{◌≡◌, ℕ, zero, suc, ◌==◌, refl, ap, ◌∙◌, sym, inl, inr, Bool, true, false, List, [], ◌∷◌, map, arith, cond}
use Rattle.std.specs.Prelude.{ℤ, pos, ◌+ℤ◌}
use Rattle.std.specs.List.{filter, Contains, AllByRecursion}
use Rattle.std.specs.List.Sorted.{IsStrictlySortedBy}
use Rattle.std.specs.Ordering.{nat_cmp, is_eq}
use Rattle.std.specs.declared.cmp.Ordering.{Ordering}
use Rattle.std.specs.declared.cmp.Ordering.TheVariants.{Less}
use Rattle.std.specs.Cmp.{unsigned_tied}
use Rattle.std.proofs.lemmas.Bool.{cases_Bool, eqb-true, eq-eqb}
use Rattle.std.proofs.lemmas.Map.Keys.{sorted_head, sorted_tail, sorted_from_strictly_increasing}
use Rattle.bsp_statement.specs.declared.posting.Posting.{Posting}
use Rattle.bsp_statement.specs.Nets.{net_of_postings}
use Rattle.bsp_statement.proofs.SumLemmas.{sums, sums-cons, add_zero, zero_add, sums_over, sums_agree}
use Rattle.bsp_statement.proofs.NetLemmas.{net_of_posting, net_is_sum}
use Rattle.bsp_statement.specs.Sums.{AreCodes}

-- ---- a code that stands once

above : (k : ℕ) (v : ℤ) (codes : List ℕ) → AllByRecursion (λ c. nat_cmp k c ≡ Less) codes → sums (λ c. cond (k == c) v (pos 0)) codes ≡ pos 0
above k v [] all = refl
above k v (c ∷ codes) all =
    sums-cons (λ (d : ℕ). cond (k == d) v (pos 0)) c codes
    ∙ ap (λ (n : ℤ). cond (k == c) v (pos 0) +ℤ n) (above k v codes all.1)
    ∙ ap (λ (b : Bool). cond b v (pos 0) +ℤ pos 0) (sym (unsigned_tied k c) ∙ ap (λ (o : Ordering). is_eq o) all.0)

once : (k : ℕ) (v : ℤ) (codes : List ℕ) → IsStrictlySortedBy nat_cmp codes → Contains codes k → sums (λ c. cond (k == c) v (pos 0)) codes ≡ v
once k v [] sorted (i, below, is) = absurd (omega (arith, below))
once k v (c ∷ codes) sorted has =
    sums-cons (λ (d : ℕ). cond (k == d) v (pos 0)) c codes
    ∙ elim (cases_Bool (k == c)) [
      | inl here ↦
          ap (λ (b : Bool). cond b v (pos 0) +ℤ sums (λ d. cond (k == d) v (pos 0)) codes) here
          ∙ ap (λ (n : ℤ). v +ℤ n) (ap (λ (j : ℕ). sums (λ d. cond (j == d) v (pos 0)) codes) (eqb-true k c here) ∙ above c v codes (sorted_head nat_cmp c codes sorted))
          ∙ add_zero v
      | inr there ↦
          ap (λ (b : Bool). cond b v (pos 0) +ℤ sums (λ d. cond (k == d) v (pos 0)) codes) there
          ∙ zero_add (sums (λ d. cond (k == d) v (pos 0)) codes)
          ∙ once k v codes (sorted_tail nat_cmp c codes sorted) (in_rest has there)
    ] where
      in_rest : Contains (c ∷ codes) k → (k == c) ≡ false → Contains codes k
      in_rest (zero, below, is) there = let e : (k == c) ≡ true = eq-eqb k c (sym is) in cc
      in_rest (suc i, below, is) there = (i, omega (arith, below), is)

contains-map : {R : Type 0} (code_of : R → ℕ) (rows : List R) (r : R) → Contains rows r → Contains (map code_of rows) (code_of r)
contains-map code_of [] r (k, below, is) = absurd (omega (arith, below))
contains-map code_of (q ∷ rows) r (zero, below, is) = (0, omega arith, ap code_of is)
contains-map code_of (q ∷ rows) r (suc k, below, is) = let rest = contains-map code_of rows r (k, omega (arith, below), is) in (suc rest.0, omega (arith, rest.1), rest.2)

pub sums_over_codes : {R : Type 0} (f : R → ℤ) (code_of : R → ℕ) (codes : List ℕ) (rows : List R) → AreCodes codes (map code_of rows) → sums (λ code. sums f (filter (λ r. code_of r == code) rows)) codes ≡ sums f rows
sums_over_codes f code_of codes rows are =
    sums_over f (λ code r. code_of r == code) codes rows
    (λ r has v. once (code_of r) v codes (sorted_from_strictly_increasing codes are.rising) ((are.members (code_of r)).1 (contains-map code_of rows r has)))

-- the nets of all codes add up to the net of all postings
pub side : (code_of : Posting → ℕ) (codes : List ℕ) (rows : List Posting) → AreCodes codes (map code_of rows) → sums (λ code. net_of_postings (filter (λ p. code_of p == code) rows)) codes ≡ net_of_postings rows
side code_of codes rows are =
    sums_agree _ _ (λ code. net_is_sum (filter (λ p. code_of p == code) rows)) codes
    ∙ sums_over_codes net_of_posting code_of codes rows are
    ∙ sym (net_is_sum rows)
