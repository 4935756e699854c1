-- Unsigned numbers in decimal digits.
use Rattle.std.specs.Prelude.{ℕ, zero, suc, ◌+◌, ◌/◌, ◌%◌, not, List, [], ◌∷◌, ◌++◌, Result}
use Rattle.std.specs.Str.{all_ascii_digits}
use Rattle.std.specs.Str.Parse.{digits_value}
use Rattle.bsp_fields.specs.FirstFault.{first_fault_or}
use Rattle.bsp_fields.specs.declared.fault.FieldFault.{FieldFault}
use Rattle.bsp_fields.specs.declared.fault.FieldFault.TheVariants.{NotDigit}

-- the number that decimal digits write
abbrev pub number_of : List ℕ → ℕ
number_of digits = digits_value 10 digits

-- what a text of digits reads as, whatever its width
abbrev pub digits_reading : List ℕ → Result ℕ FieldFault
digits_reading text = first_fault_or ((not (all_ascii_digits text), NotDigit) ∷ []) (number_of text)

-- the last `width` decimal digits of n, with zeros in front
abbrev pub fixed_digits : ℕ → ℕ → List ℕ
fixed_digits zero n = []
fixed_digits (suc width) n = fixed_digits width (n / 10) ++ (48 + n % 10) ∷ []
