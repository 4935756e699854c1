-- Lemmas on numbers of fixed width.
use Rattle.std.proofs.Common.{◌≡◌, ◌≢◌, ℕ, ◌^◌, ◌<◌, ◌%◌, ◌/◌, ◌==◌, not, true, false, Ok, Err, List, [], ◌∷◌, length, refl, sym}
use Rattle.std.specs.Str.{all_ascii_digits}
use Rattle.std.proofs.lemmas.Bool.{eq-eqb, ne_eqb}
use Rattle.bsp_fields.specs.Decimal.{number_of, fixed_digits}
use Rattle.bsp_fields.specs.Codes.{check_digit_of, code_reading, document_reading, agent_reading}
use Rattle.bsp_fields.specs.declared.fault.FieldFault.{FieldFault}
use Rattle.bsp_fields.specs.declared.fault.FieldFault.TheVariants.{Width, NotDigit, CheckDigit}
use Rattle.bsp_fields.proofs.DecimalLemmas.{length-fixed_digits, digits-fixed_digits, number_of-fixed_digits}
use Rattle.bsp_fields.proofs.FirstFaultLemmas.{row_passed, rows_told, value_told}

-- the digits of a number read back to it
pub code_reading-fixed_digits : (w n : ℕ) → n < 10 ^ w → code_reading w (fixed_digits w n) ≡ Ok n
code_reading-fixed_digits w n small =
    rw (length-fixed_digits w n, eq-eqb w w refl, digits-fixed_digits w n, number_of-fixed_digits w n small) refl

pub document_reading-fixed_digits : (n : ℕ) → n < 10 ^ 10 → document_reading (fixed_digits 10 n) (check_digit_of n) ≡ Ok n
document_reading-fixed_digits n small =
    rw (length-fixed_digits 10 n, digits-fixed_digits 10 n, number_of-fixed_digits 10 n small, eq-eqb (n % 7) (n % 7) refl) refl

agent_reads : (text : List ℕ) (n : ℕ) → length text ≡ 8 → all_ascii_digits text ≡ true → number_of text ≡ n → n % 10 ≡ n / 10 % 7 → agent_reading text ≡ Ok n
agent_reads text n wide digits is checked = rw (wide, digits, is, eq-eqb (n % 10) (n / 10 % 7) checked) refl

pub agent_reading-fixed_digits : (n : ℕ) → n < 10 ^ 8 → n % 10 ≡ check_digit_of (n / 10) → agent_reading (fixed_digits 8 n) ≡ Ok n
agent_reading-fixed_digits n small checked =
    agent_reads (fixed_digits 8 n) n (length-fixed_digits 8 n) (digits-fixed_digits 8 n) (number_of-fixed_digits 8 n small) checked

-- ---- what a text of digits tells, where its number has a check digit too

code_parts : (w : ℕ) (text : List ℕ) (n : ℕ) → Ok n ≡ code_reading w text → (not (length text == w) ≡ false) × (not (all_ascii_digits text) ≡ false) × (number_of text ≡ n)
code_parts w text n is =
    let wide = row_passed (not (length text == w)) Width ((not (all_ascii_digits text), NotDigit) ∷ []) (number_of text) n (sym is) in
    let digits = row_passed (not (all_ascii_digits text)) NotDigit [] (number_of text) n wide.1 in
    (wide.0, digits.0, value_told {F = FieldFault} (number_of text) n digits.1)

pub document_passed : (text : List ℕ) (check n : ℕ) → Ok n ≡ code_reading 10 text → check ≡ n % 7 → Ok n ≡ document_reading text check
document_passed text check n is checked = let p = code_parts 10 text n is in rw (p.0, p.1, p.2, eq-eqb check (n % 7) checked) refl

pub document_unchecked : (text : List ℕ) (check n : ℕ) → Ok n ≡ code_reading 10 text → check ≢ n % 7 → Err CheckDigit ≡ document_reading text check
document_unchecked text check n is other = let p = code_parts 10 text n is in rw (p.0, p.1, p.2, ne_eqb check (n % 7) other) refl

pub document_told : (text : List ℕ) (check : ℕ) (e : FieldFault) → Err e ≡ code_reading 10 text → Err e ≡ document_reading text check
document_told text check e is =
    sym (rows_told ((not (length text == 10), Width) ∷ (not (all_ascii_digits text), NotDigit) ∷ []) ((not (check == check_digit_of (number_of text)), CheckDigit) ∷ []) (number_of text) e (sym is))

pub agent_passed : (text : List ℕ) (n : ℕ) → Ok n ≡ code_reading 8 text → n % 10 ≡ n / 10 % 7 → Ok n ≡ agent_reading text
agent_passed text n is checked = let p = code_parts 8 text n is in rw (p.0, p.1, p.2, eq-eqb (n % 10) (n / 10 % 7) checked) refl

pub agent_unchecked : (text : List ℕ) (n : ℕ) → Ok n ≡ code_reading 8 text → n % 10 ≢ n / 10 % 7 → Err CheckDigit ≡ agent_reading text
agent_unchecked text n is other = let p = code_parts 8 text n is in rw (p.0, p.1, p.2, ne_eqb (n % 10) (n / 10 % 7) other) refl

pub agent_told : (text : List ℕ) (e : FieldFault) → Err e ≡ code_reading 8 text → Err e ≡ agent_reading text
agent_told text e is =
    sym (rows_told ((not (length text == 8), Width) ∷ (not (all_ascii_digits text), NotDigit) ∷ []) ((not (number_of text % 10 == check_digit_of (number_of text / 10)), CheckDigit) ∷ []) (number_of text) e (sym is))
