use Rattle.std.proofs.Common.{◌≡◌, ◌<◌, ◌≤◌, ◌+◌, ◌*◌, ◌∙◌, ℕ, ℤ, pos, ◌+ℤ◌, List, Option, length, get_or, take, map, unsigned_abs, refl, ap, sym, arith, to_z, of_z}
use Rattle.std.specs.Int.{w64}
use Rattle.std.specs.Prelude.{FitsSigned}
use Rattle.std.proofs.lemmas.Int.{ints, to_z-of_z, fits_signed_from_abs}
use Rattle.std.proofs.lemmas.List.Folds.{fold-map}
use Rattle.std.proofs.lemmas.List.Sums.{fold_more}
use Rattle.bsp_ret_records.specs.declared.transactions.Tax.{Tax}
use Rattle.bsp_rules.specs.Amounts.{sum_of, tax_amount}
use Rattle.bsp_rules.proofs.sums.tax_sum.Goals as goal

-- the sum with one more tax
one_more : (taxes : List (Option Tax)) (i : ℕ) (tax : Option Tax) → i < length taxes → sum_of (map tax_amount (take (i + 1) taxes)) ≡ sum_of (map tax_amount (take i taxes)) +ℤ tax_amount (get_or taxes i tax)
one_more taxes i tax below =
    let added : ℤ → Option Tax → ℤ = λ sum more. sum +ℤ tax_amount more in
    fold-map ◌+ℤ◌ tax_amount (pos 0) (take (i + 1) taxes)
    ∙ fold_more added (pos 0) taxes i tax below
    ∙ ap (λ (sum : ℤ). sum +ℤ tax_amount (get_or taxes i tax)) (sym (fold-map ◌+ℤ◌ tax_amount (pos 0) (take i taxes)))

size_more : (x y : ℤ) → unsigned_abs (x +ℤ y) ≤ unsigned_abs x + unsigned_abs y
size_more x y = omega (arith, ints)

fits : (i : ℕ) (x y : ℤ) → i < 6 → unsigned_abs x ≤ 99_999_999_999 * i → unsigned_abs y ≤ 99_999_999_999 → FitsSigned w64 (x +ℤ to_z w64 (of_z w64 y))
fits i x y few before more =
    let part = to_z-of_z w64 y (fits_signed_from_abs w64 y (omega arith)) in
    rw part (fits_signed_from_abs w64 (x +ℤ y) (omega (arith, size_more x y)))

stored : (i : ℕ) (x y : ℤ) → i < 6 → unsigned_abs x ≤ 99_999_999_999 * i → unsigned_abs y ≤ 99_999_999_999 → to_z w64 (of_z w64 (x +ℤ to_z w64 (of_z w64 y))) ≡ x +ℤ y
stored i x y few before more =
    to_z-of_z w64 (x +ℤ to_z w64 (of_z w64 y)) (fits i x y few before more) ∙ ap (λ (part : ℤ). x +ℤ part) (to_z-of_z w64 y (fits_signed_from_abs w64 y (omega arith)))

pub loop-tax-init : goal.loop-tax-init
loop-tax-init c = (refl, omega arith)

pub loop-tax-preserved : goal.loop-tax-preserved
loop-tax-preserved c =
    let i = c.loop-tax.tax-index in
    let taxes = c.args.taxes.now in
    let before = to_z w64 c.loop-tax.sum-bits in
    let part = c.tax_amount-sum.result in
    let sum = stored i before part c.loop-tax-test.true c.loop-tax.invariant.1 c.tax_amount-sum.ensures.bound in
    let below : i < length taxes = omega arith in
    let more : before +ℤ part ≡ sum_of (map tax_amount (take (i + 1) taxes)) =
    ap (λ (x : ℤ). x +ℤ part) c.loop-tax.invariant.0
    ∙ ap (λ (x : ℤ). sum_of (map tax_amount (take i taxes)) +ℤ x) c.tax_amount-sum.ensures.value
    ∙ sym (one_more taxes i _ below) in
    let small : unsigned_abs (before +ℤ part) ≤ 99_999_999_999 * (i + 1) =
    omega (arith, size_more before part, c.loop-tax.invariant.1, c.tax_amount-sum.ensures.bound) in
    rw sum (more, small)

pub overflow_add-sum : goal.overflow_add-sum
overflow_add-sum c =
    fits c.loop-tax.tax-index (to_z w64 c.loop-tax.sum-bits) c.tax_amount-sum.result c.loop-tax-test.true c.loop-tax.invariant.1 c.tax_amount-sum.ensures.bound
