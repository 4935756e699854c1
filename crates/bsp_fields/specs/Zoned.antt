-- Signed zoned decimals of the DISH handbook: digits, and a last character that carries a digit and the sign.
use Rattle.std.specs.Prelude.{◌≡◌, ℕ, ◌+◌, ◌-◌, ◌*◌, ◌/◌, ◌%◌, Bool, not, ◌&&◌, ◌||◌, ◌==◌, nat_le, if◌then◌else◌, List, [], ◌∷◌, ◌++◌, length, take, slice_index, ℤ, pos, neg_ℤ, unsigned_abs, false, Result, Ok}
use Rattle.std.specs.Char.{is_ascii_digit}
use Rattle.std.specs.Str.{all_ascii_digits}
use Rattle.std.specs.Int.{is_negative}
use Rattle.bsp_fields.specs.FirstFault.{first_fault_or}
use Rattle.bsp_fields.specs.Decimal.{number_of, fixed_digits}
use Rattle.bsp_fields.specs.declared.fault.FieldFault.{FieldFault}
use Rattle.bsp_fields.specs.declared.fault.FieldFault.TheVariants.{Width, NotDigit, NotSign, TooLarge}

-- every character but the last
abbrev pub all_but_last : List ℕ → List ℕ
all_but_last text = take (length text - 1) text

-- the last character
abbrev pub last_character : List ℕ → ℕ
last_character text = slice_index text (length text - 1)

-- `{`, `A` to `I`, and a bare digit: a digit and plus
abbrev pub is_plus : ℕ → Bool
is_plus c = is_ascii_digit c || (c == 123) || (nat_le 65 c && nat_le c 73)

-- `}`, and `J` to `R`: a digit and minus
abbrev pub is_minus : ℕ → Bool
is_minus c = (c == 125) || (nat_le 74 c && nat_le c 82)

-- the digit of `0` to `9`, of `A` to `I` and of `J` to `R`; it is 0 for `{` and `}`
abbrev pub last_digit : ℕ → ℕ
last_digit c =
    if is_ascii_digit c then c - 48
    else (if nat_le 65 c && nat_le c 73 then c - 64 else (if nat_le 74 c && nat_le c 82 then c - 73 else 0))

-- the sign and the digit of a last character, or NotSign
abbrev pub ending_reading : ℕ → Result (Bool × ℕ) FieldFault
ending_reading c =
    first_fault_or ((not (is_plus c || is_minus c), NotSign) ∷ []) (is_minus c, last_digit c)

-- the number of this size, below zero where the test holds
abbrev pub with_sign : Bool → ℕ → ℤ
with_sign negative size = if negative then neg_ℤ (pos size) else pos size

-- the value of a text: the digits and the last digit, with the sign
abbrev pub zoned_value : List ℕ → ℤ
zoned_value text = with_sign (is_minus (last_character text)) (10 * number_of (all_but_last text) + last_digit (last_character text))

-- what a text of this width reads as
abbrev pub zoned_reading : ℕ → List ℕ → Result ℤ FieldFault
zoned_reading width text =
    first_fault_or
    ((not (length text == width), Width)
    ∷ (not (all_ascii_digits (all_but_last text)), NotDigit)
    ∷ (not (is_plus (last_character text) || is_minus (last_character text)), NotSign)
    ∷ [])
    (zoned_value text)

-- the last character that is written for a digit and a sign
abbrev pub ending : Bool → ℕ → ℕ
ending negative digit =
    if digit == 0 then (if negative then 125 else 123) else (if negative then 73 + digit else 64 + digit)

-- the one text of this width that is written for a value
abbrev pub spelling : ℕ → ℤ → List ℕ
spelling width value =
    fixed_digits (width - 1) (unsigned_abs value / 10) ++ ending (is_negative value) (unsigned_abs value % 10) ∷ []

-- a text of this width that has the value, and ends in a letter or a brace by its sign
pub record IsSpelling (width : ℕ) (value : ℤ) (text : List ℕ) : Type 0 where
  pub reads : zoned_reading width text ≡ Ok value
  pub no_digit : is_ascii_digit (last_character text) ≡ false
  pub sign : is_minus (last_character text) ≡ is_negative value

-- the value, or TooLarge where its size is above the limit
abbrev pub within : ℕ → ℤ → Result ℤ FieldFault
within limit value = first_fault_or ((not (nat_le (unsigned_abs value) limit), TooLarge) ∷ []) value
