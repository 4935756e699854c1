-- Codes of letters.
use Rattle.std.specs.Prelude.{ℕ, ◌==◌, ◌&&◌, Bool, nat_le, List, length, if◌then◌else◌, Option, Some, None}
use Rattle.std.specs.List.{list_all}

-- `A` to `Z`
abbrev pub is_letter : ℕ → Bool
is_letter c = nat_le 65 c && nat_le c 90

abbrev pub are_letters : List ℕ → Bool
are_letters text = list_all is_letter text

-- the currency that a text names
abbrev pub currency_reading : List ℕ → Option (List ℕ)
currency_reading text = if (length text == 3) && are_letters text then Some text else None
