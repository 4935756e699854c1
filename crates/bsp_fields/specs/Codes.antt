-- Numbers of fixed width, and check digits.
use Rattle.std.specs.Prelude.{ℕ, ◌/◌, ◌%◌, not, ◌==◌, List, [], ◌∷◌, length, Result}
use Rattle.std.specs.Str.{all_ascii_digits}
use Rattle.bsp_fields.specs.FirstFault.{first_fault_or}
use Rattle.bsp_fields.specs.Decimal.{number_of}
use Rattle.bsp_fields.specs.declared.fault.FieldFault.{FieldFault}
use Rattle.bsp_fields.specs.declared.fault.FieldFault.TheVariants.{Width, NotDigit, CheckDigit}

-- the check digit of a document number
abbrev pub check_digit_of : ℕ → ℕ
check_digit_of number = number % 7

-- what a number of this many digits reads as
abbrev pub code_reading : ℕ → List ℕ → Result ℕ FieldFault
code_reading width text =
    first_fault_or
    ((not (length text == width), Width) ∷ (not (all_ascii_digits text), NotDigit) ∷ [])
    (number_of text)

-- what a document number reads as, beside this check digit
abbrev pub document_reading : List ℕ → ℕ → Result ℕ FieldFault
document_reading text check =
    first_fault_or
    ((not (length text == 10), Width)
    ∷ (not (all_ascii_digits text), NotDigit)
    ∷ (not (check == check_digit_of (number_of text)), CheckDigit)
    ∷ [])
    (number_of text)

-- what an agent code reads as: its eighth digit is its first seven modulo 7
abbrev pub agent_reading : List ℕ → Result ℕ FieldFault
agent_reading text =
    first_fault_or
    ((not (length text == 8), Width)
    ∷ (not (all_ascii_digits text), NotDigit)
    ∷ (not (number_of text % 10 == check_digit_of (number_of text / 10)), CheckDigit)
    ∷ [])
    (number_of text)
