-- Lemmas on commission.
use Rattle.std.proofs.Common.{◌≡◌, ℕ, ℤ, pos, negsuc, suc, neg_ℤ, ◌+◌, ◌*◌, ◌/◌, ◌<◌, ◌≤◌, ◌*ℤ◌, ◌-ℤ◌, Bool, ◌&&◌, ◌||◌, nat_lt, nat_le, unsigned_abs, true, false, refl, sym, ◌∙◌, arith}
use Rattle.std.specs.Prelude.{int_lt}
use Rattle.std.proofs.lemmas.Int.{ints}
use Rattle.std.proofs.lemmas.Bool.Decides.{Decides-int_eq, nat_tests}
use Rattle.std.specs.Ordering.{int_eq}
use Rattle.std.proofs.lemmas.Bool.{false≢true}
use Rattle.bsp_rules.specs.Commission.{IsCommission, commission_on, is_commission}

-- the test, where rate * basis is `exact` and 10,000 times the amount is `told`
abbrev passes : ℤ → ℤ → Bool
passes told exact =
    nat_lt (2 * unsigned_abs (told -ℤ exact)) 10_000
    || (nat_le (2 * unsigned_abs (told -ℤ exact)) 10_000 && nat_le (unsigned_abs exact) (unsigned_abs told))

both_above : (p m s : ℕ) → 10_000 * s ≤ p + 5_000 → p + 5_000 < 10_000 * s + 10_000 → passes (pos (10_000 * m)) (pos p) ≡ int_eq (pos m) (pos s)
both_above p m s h i = grind (arith, ints, nat_tests)

amount_below : (p m s : ℕ) → 10_000 * s ≤ p + 5_000 → p + 5_000 < 10_000 * s + 10_000 → passes (neg_ℤ (pos (10_000 * suc m))) (pos p) ≡ int_eq (negsuc m) (pos s)
amount_below p m s h i = grind (arith, ints, nat_tests)

basis_below : (p m s : ℕ) → 10_000 * s ≤ p + 5_000 → p + 5_000 < 10_000 * s + 10_000 → passes (pos (10_000 * m)) (neg_ℤ (pos p)) ≡ int_eq (pos m) (neg_ℤ (pos s))
basis_below p m s h i = grind (arith, ints, nat_tests)

both_below : (p m s : ℕ) → 10_000 * s ≤ p + 5_000 → p + 5_000 < 10_000 * s + 10_000 → passes (neg_ℤ (pos (10_000 * suc m))) (neg_ℤ (pos p)) ≡ int_eq (negsuc m) (neg_ℤ (pos s))
both_below p m s h i = grind (arith, ints, nat_tests)

not_below : (n : ℕ) → int_lt (pos n) (pos 0) ≡ false
not_below n = grind (arith, nat_tests)

-- the commission on a basis of 0 or more, and on one below: its size is that of the rounded quotient
pub commission_above : (r : ℕ) (b : ℤ) (s : ℕ) → 10_000 * s ≤ r * unsigned_abs b + 5_000 → r * unsigned_abs b + 5_000 < 10_000 * s + 10_000 → int_lt b (pos 0) ≡ false → (k : ℤ) → is_commission r b k ≡ int_eq k (pos s)
unfolding is_commission
commission_above r (pos n) s h i e (pos m) = both_above (r * n) m s h i
commission_above r (pos n) s h i e (negsuc m) = amount_below (r * n) m s h i
commission_above r (negsuc n) s h i e k = absurd (false≢true (sym e))

pub commission_below : (r : ℕ) (b : ℤ) (s : ℕ) → 10_000 * s ≤ r * unsigned_abs b + 5_000 → r * unsigned_abs b + 5_000 < 10_000 * s + 10_000 → int_lt b (pos 0) ≡ true → (k : ℤ) → is_commission r b k ≡ int_eq k (neg_ℤ (pos s))
unfolding is_commission
commission_below r (pos n) s h i e k = absurd (false≢true (sym (not_below n) ∙ e))
commission_below r (negsuc n) s h i e (pos m) = basis_below (r * suc n) m s h i
commission_below r (negsuc n) s h i e (negsuc m) = both_below (r * suc n) m s h i

-- what passes is near, and what else is near is of no greater size
near_and_greater : (k j exact : ℤ) → passes (pos 10_000 *ℤ k) exact ≡ true → (2 * unsigned_abs (pos 10_000 *ℤ k -ℤ exact) ≤ 10_000) × (2 * unsigned_abs (pos 10_000 *ℤ j -ℤ exact) ≤ 10_000 → unsigned_abs j ≤ unsigned_abs k)
near_and_greater (pos m) (pos n) exact h = (grind (arith, ints, nat_tests), λ g. grind (arith, ints, nat_tests))
near_and_greater (pos m) (negsuc n) exact h = (grind (arith, ints, nat_tests), λ g. grind (arith, ints, nat_tests))
near_and_greater (negsuc m) (pos n) exact h = (grind (arith, ints, nat_tests), λ g. grind (arith, ints, nat_tests))
near_and_greater (negsuc m) (negsuc n) exact h = (grind (arith, ints, nat_tests), λ g. grind (arith, ints, nat_tests))

-- what the test lets pass is the commission
pub commission_from_test : (r : ℕ) (b k : ℤ) → is_commission r b k ≡ true → IsCommission r b k
unfolding is_commission
commission_from_test r b k h = record {
  nearest = (near_and_greater k k (pos r *ℤ b) h).0;
  greater = λ j. (near_and_greater k j (pos r *ℤ b) h).1;
}

-- at a rate of at most 10,000 the commission is of no greater size than the basis
pub size_within : (r n s : ℕ) → r ≤ 10_000 → 10_000 * s ≤ r * n + 5_000 → s ≤ n
size_within r n s h i = grind arith

-- ---- the commission as a number

quotient_low : (x : ℕ) → 10_000 * (x / 10_000) ≤ x
quotient_low x = omega arith

quotient_high : (x : ℕ) → x < 10_000 * (x / 10_000) + 10_000
quotient_high x = omega arith

below_zero : (n : ℕ) → int_lt (negsuc n) (pos 0) ≡ true
below_zero n = grind (arith, ints, nat_tests)

-- the test passes this number alone
commission_only : (r : ℕ) (b k : ℤ) → is_commission r b k ≡ int_eq k (commission_on r b)
unfolding commission_on
commission_only r (pos n) k =
    commission_above r (pos n) ((r * n + 5_000) / 10_000) (quotient_low (r * n + 5_000)) (quotient_high (r * n + 5_000)) (not_below n) k
commission_only r (negsuc n) k =
    commission_below r (negsuc n) ((r * suc n + 5_000) / 10_000) (quotient_low (r * suc n + 5_000)) (quotient_high (r * suc n + 5_000)) (below_zero n) k

pub commission_number : (r : ℕ) (b k : ℤ) → is_commission r b k ≡ true → k ≡ commission_on r b
commission_number r b k h = (Decides-int_eq k (commission_on r b)).0 (sym (commission_only r b k) ∙ h)

pub commission_is : (r : ℕ) (b : ℤ) → IsCommission r b (commission_on r b)
commission_is r b = commission_from_test r b (commission_on r b) (commission_only r b (commission_on r b) ∙ (Decides-int_eq (commission_on r b) (commission_on r b)).1 refl)
