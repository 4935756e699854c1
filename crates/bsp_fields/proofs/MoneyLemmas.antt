-- Lemmas on money as text.
use Rattle.std.proofs.Common.{◌≡◌, ℕ, ◌+◌, ◌/◌, ◌%◌, ◌<◌, ◌≤◌, ◌^◌, false, [], ◌∷◌, refl, ◌∙◌, arith, inl, inr, ◌-◌}
use Rattle.std.specs.Fmt.{decimal, padded_integral, format_spec, char_count}
use Rattle.std.proofs.lemmas.Fmt.{decimal_digit, decimal_step}
use Rattle.std.proofs.lemmas.Bool.{cases_lt}
use Rattle.bsp_fields.specs.Decimal.{fixed_digits}

one_digit : (n : ℕ) → n < 10 → padded_integral (format_spec 32 0 4 2 (2 ^ 64 - 1)) false [] (decimal n) ≡ 48 ∷ (48 + n) ∷ []
unfolding padded_integral char_count
one_digit n small = rw (decimal_digit n small) refl

two_digits : (n : ℕ) → 10 ≤ n → n < 100 → padded_integral (format_spec 32 0 4 2 (2 ^ 64 - 1)) false [] (decimal n) ≡ (48 + n / 10) ∷ (48 + n % 10) ∷ []
unfolding padded_integral char_count
two_digits n large small =
    rw (decimal_step n large (omega arith), decimal_digit (n / 10) (omega arith)) refl

-- `{:02}` of a number below 100
pub two_places : (n : ℕ) → n < 100 → padded_integral (format_spec 32 0 4 2 (2 ^ 64 - 1)) false [] (decimal n) ≡ fixed_digits 2 n
two_places n small = elim (cases_lt n 10) [
  | inl low ↦ (let tens : n / 10 % 10 ≡ 0 = omega arith in let ones : n % 10 ≡ n = omega arith in
      one_digit n low ∙ rw (tens, ones) refl)
  | inr high ↦ (let tens : n / 10 % 10 ≡ n / 10 = omega arith in two_digits n high small ∙ rw tens refl)
]
