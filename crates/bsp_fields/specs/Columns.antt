-- The columns of a record, and kinds of characters. Columns are counted from 1, both ends included.
use Rattle.std.specs.Prelude.{ℕ, ◌-◌, ◌==◌, nat_le, Bool, ◌&&◌, ◌||◌, List, length, slice_index, slice_range}
use Rattle.std.specs.List.{list_all}
use Rattle.std.specs.Char.{is_ascii_digit}

abbrev pub columns : ℕ → ℕ → List ℕ → List ℕ
columns from to line = slice_range line (from - 1) to

-- column 1
abbrev pub identifier : List ℕ → ℕ
identifier line = slice_index line 0

-- ---- kinds of characters

abbrev pub is_letter : ℕ → Bool
is_letter b = nat_le 65 b && nat_le b 90

abbrev pub is_letter_or_digit : ℕ → Bool
is_letter_or_digit b = is_ascii_digit b || is_letter b

abbrev pub is_space : ℕ → Bool
is_space b = b == 32

abbrev pub is_printable : ℕ → Bool
is_printable b = nat_le 32 b && nat_le b 126

-- a record's width and characters
unfoldable pub is_wide : List ℕ → Bool
is_wide line = (length line == 136) && list_all is_printable line
