-- What is written into a column is read back of it.
use Rattle.std.proofs.Common.{◌≡◌, ◌+◌, ℕ, ℤ, ◌<◌, ◌/◌, ◌%◌, ◌^◌, Some, ap, cond, refl, suc, unsigned_abs, le-leb, lt-ltb}
use Rattle.sqlite_value.specs.declared.value.Value.TheVariants.{Int, Text}
use Rattle.bsp_rows.specs.Codes.{check_digit_of}
use Rattle.bsp_rows.specs.Stored.{IsStoredAmount}
use Rattle.bsp_rows.proofs.CodeLemmas.{agent_reading-fixed_digits, code_reading-fixed_digits}
use Rattle.bsp_store_columns.specs.Values.{agent_text, code_digits, count}
use Rattle.bsp_store_columns.specs.Reading.{agent_in, amount_in, below, code_in}
use Rattle.bsp_rows.specs.Decimal.{fixed_digits}

-- a code that fits in its width
pub code_digits-fits : (w n : ℕ) → n < 10 ^ w → code_digits w n ≡ fixed_digits w n
code_digits-fits w n fits = ap (λ b. cond b (fixed_digits w n) (fixed_digits (w + suc n) n)) (lt-ltb n (10 ^ w) fits)

pub agent_back : (agent : ℕ) → agent < 10 ^ 8 → agent % 10 ≡ check_digit_of (agent / 10) → agent_in (agent_text agent) ≡ Some agent
agent_back agent fits checked = rw (code_digits-fits 8 agent fits, agent_reading-fixed_digits agent fits checked) refl

-- a code of that many digits
pub code_back : (w n : ℕ) → n < 10 ^ w → code_in w (Text (code_digits w n)) ≡ Some n
code_back w n fits = rw (code_digits-fits w n fits, code_reading-fixed_digits w n fits) refl

pub amount_back : (n : ℤ) → IsStoredAmount n → amount_in (Int n) ≡ Some n
amount_back n is = rw (le-leb (unsigned_abs n) 99_999_999_999 is.size) refl

pub below_back : (most n : ℕ) → n < most → below most (count n) ≡ Some n
below_back most n fits = rw (lt-ltb n most fits) refl
