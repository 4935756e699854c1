-- Lemmas on the fields that are written: they read back.
use Rattle.std.proofs.Common.{◌≡◌, ℕ, ◌<◌, ◌≤◌, ◌^◌, true, refl, arith, ℤ, Ok}
use Rattle.std.specs.Prelude.{unsigned_abs}
use Rattle.std.proofs.lemmas.Bool.{eq-eqb, le-leb}
use Rattle.bsp_fields.specs.Decimal.{fixed_digits}
use Rattle.bsp_fields.specs.Zoned.{spelling, zoned_reading}
use Rattle.bsp_fields.proofs.DecimalLemmas.{digits-fixed_digits, number_of-fixed_digits}
use Rattle.bsp_fields.proofs.ZonedLemmas.{reading-spelling}
use Rattle.bsp_fields.specs.Fields.{spells, spells_at_most, is_amount}

pub spells-digits : (width n : ℕ) → n < 10 ^ width → spells n (fixed_digits width n) ≡ true
spells-digits width n small =
    rw (digits-fixed_digits width n, number_of-fixed_digits width n small, eq-eqb n n refl) refl

pub spells_at_most-digits : (width n most : ℕ) → n < 10 ^ width → n ≤ most → spells_at_most most (fixed_digits width n) ≡ true
spells_at_most-digits width n most small few =
    rw (digits-fixed_digits width n, number_of-fixed_digits width n small, le-leb n most few) refl

-- the largest amount has eleven digits
pub amount_reads : (amount : ℤ) → unsigned_abs amount ≤ 99_999_999_999 → zoned_reading 11 (spelling 11 amount) ≡ Ok amount
amount_reads amount small = reading-spelling 11 amount (omega arith) (omega arith)

pub is_amount-spelling : (amount : ℤ) → unsigned_abs amount ≤ 99_999_999_999 → is_amount (spelling 11 amount) ≡ true
is_amount-spelling amount small = rw (amount_reads amount small) refl
