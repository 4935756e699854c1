-- The values of columns.
use Rattle.std.specs.Prelude.{[], ◌%◌, ◌+◌, ◌/◌, ◌<◌, ◌≡◌, ◌^◌, ◌∷◌, Bool, if◌then◌else◌, List, map, nat_lt, Option, pos, suc, ℕ}
use Rattle.sqlite_value.specs.declared.value.Value.TheVariants.{Int, Text}
use Rattle.sqlite_value.specs.declared.value.Value.{Value}
use Rattle.bsp_rows.specs.Codes.{check_digit_of}
use Rattle.std.specs.List.{concat}
use Rattle.bsp_rows.specs.Decimal.{fixed_digits}
use Rattle.bsp_rows.specs.Tax.{Tax}
use Rattle.bsp_rows.specs.Writing.{tax_text}

-- a number in decimal digits, of this width where it fits, and else of a greater one
abbrev pub code_digits : ℕ → ℕ → List ℕ
code_digits width n = if nat_lt n (10 ^ width) then fixed_digits width n else fixed_digits (width + suc n) n

abbrev pub agent_text : ℕ → Value
agent_text code = Text (code_digits 8 code)

abbrev pub airline_text : ℕ → Value
airline_text code = Text (code_digits 3 code)

abbrev pub period_text : ℕ → Value
period_text code = Text (code_digits 5 code)

abbrev pub number_text : ℕ → Value
number_text number = Text (code_digits 10 number)

abbrev pub count : ℕ → Value
count n = Int (pos n)

abbrev pub flag : Bool → Value
flag holds = Int (if holds then pos 1 else pos 0)

-- six places of taxes
abbrev pub taxes_text : List (Option Tax) → Value
taxes_text taxes = Text (concat (map tax_text taxes))

-- the key of a table's only row
abbrev pub only_id : Value
only_id = Int (pos 1)

-- the version of the tables
abbrev pub version : ℕ
version = 3

-- the eighth digit is the first seven modulo 7
pub record IsAgent (agent : ℕ) : Type 0 where
  pub has_digits : agent < 10 ^ 8
  pub is_checked : agent % 10 ≡ check_digit_of (agent / 10)

-- each with its place, counted from one above this
abbrev pub placed : {A : Type 0} → ℕ → List A → List (ℕ × A)
placed before [] = []
placed before (x ∷ xs) = (before + 1, x) ∷ placed (before + 1) xs
