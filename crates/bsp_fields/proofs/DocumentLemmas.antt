-- Document numbers, and what their digits read as.
use Rattle.std.proofs.Common.{◌≡◌, ℕ, ◌==◌, not, true, false, List, [], ◌∷◌, length, Ok, Err, Result, refl, sym, ap, ◌∙◌}
use Rattle.std.specs.Prelude.{is_err}
use Rattle.std.specs.Str.{all_ascii_digits}
use Rattle.std.proofs.lemmas.Bool.{eqb-true, not-false}
use Rattle.bsp_fields.specs.Codes.{check_digit_of, document_reading}
use Rattle.bsp_fields.specs.Decimal.{number_of, fixed_digits}
use Rattle.bsp_fields.specs.declared.fault.FieldFault.{FieldFault}
use Rattle.bsp_fields.specs.declared.fault.FieldFault.TheVariants.{Width, NotDigit, CheckDigit}
use Rattle.bsp_fields.proofs.FirstFaultLemmas.{row_passed, value_told}
use Rattle.bsp_fields.proofs.DecimalLemmas.{fixed_digits-number_of}

-- ten digits, of this number
record IsNumber (text : List ℕ) (x : ℕ) : Type 0 where
  wide : length text ≡ 10
  digits : all_ascii_digits text ≡ true
  value : number_of text ≡ x

is_number : (text : List ℕ) (check x : ℕ) → document_reading text check ≡ Ok x → IsNumber text x
is_number text check x h =
    let wide = row_passed (not (length text == 10)) Width ((not (all_ascii_digits text), NotDigit) ∷ (not (check == check_digit_of (number_of text)), CheckDigit) ∷ []) (number_of text) x h in
    let digits = row_passed (not (all_ascii_digits text)) NotDigit ((not (check == check_digit_of (number_of text)), CheckDigit) ∷ []) (number_of text) x wide.1 in
    let checked = row_passed (not (check == check_digit_of (number_of text))) CheckDigit [] (number_of text) x digits.1 in
    record { wide = eqb-true (length text) 10 (not-false _ wide.0); digits = not-false _ digits.0; value = value_told {F = FieldFault} (number_of text) x checked.1 }

-- what is read is the number that the digits write
pub read_number : (text : List ℕ) (check x : ℕ) → document_reading text check ≡ Ok x → number_of text ≡ x
read_number text check x h = (is_number text check x h).value

pub reads_as_number : (text : List ℕ) (check x : ℕ) → document_reading text check ≡ Ok x → document_reading text check ≡ Ok (number_of text)
reads_as_number text check x h = h ∙ ap (λ (n : ℕ). Ok n) (sym (read_number text check x h))

-- texts that read as one number are one text
pub one_number : (a b : List ℕ) (c d x y : ℕ) → document_reading a c ≡ Ok x → document_reading b d ≡ Ok y → number_of a ≡ number_of b → a ≡ b
one_number a b c d x y h g same =
    let m = is_number a c x h in
    let n = is_number b d y g in
    sym (fixed_digits-number_of 10 a m.wide m.digits) ∙ (ap (fixed_digits 10) same ∙ fixed_digits-number_of 10 b n.wide n.digits)

is_read : (r : Result ℕ FieldFault) → is_err r ≡ false → (x : ℕ) × (r ≡ Ok x)
is_read (Ok x) h = (x, refl)
is_read (Err e) h = absurd (cc h)

-- what is no fault reads as its number
pub reads_without_fault : (text : List ℕ) (check : ℕ) → is_err (document_reading text check) ≡ false → document_reading text check ≡ Ok (number_of text)
reads_without_fault text check h = let found = is_read (document_reading text check) h in reads_as_number text check found.0 found.1
