-- Tax places, as in record 5 of a RET file.
use Rattle.std.specs.Prelude.{ℕ, ◌+◌, ◌*◌, nat_lt, Bool, true, ◌&&◌, List, [], ◌∷◌, slice_index, slice_range, if◌then◌else◌}
use Rattle.std.specs.List.{list_all}
use Rattle.bsp_fields.specs.Columns.{columns, is_letter_or_digit, is_space}
use Rattle.bsp_fields.specs.Fields.{is_amount}

-- the six places of a tax code and its amount
abbrev pub tax_places : List ℕ → List (List ℕ)
tax_places line =
    columns 19 31 line ∷ columns 32 44 line ∷ columns 45 57 line ∷ columns 58 70 line ∷ columns 71 83 line
    ∷ columns 84 96 line ∷ []

-- the characters of the places from this one on
abbrev pub taxes_from : List ℕ → ℕ → List ℕ
taxes_from line index = slice_range line (18 + 13 * index) 96

-- the two characters of a tax code as a number, which orders codes by their bytes
abbrev pub tax_code : List ℕ → ℕ
tax_code place = 256 * slice_index place 0 + slice_index place 1

abbrev pub code_part : List ℕ → List ℕ
code_part place = columns 1 2 place

abbrev pub amount_part : List ℕ → List ℕ
amount_part place = columns 3 13 place

abbrev pub tax_fits : List ℕ → Bool
tax_fits place = list_all is_letter_or_digit (code_part place) && is_amount (amount_part place)

-- used places come first, with codes that rise; unused places are spaces
abbrev pub taxes_fit : ℕ → List (List ℕ) → Bool
taxes_fit before [] = true
taxes_fit before (place ∷ places) =
    if list_all is_space place then list_all (list_all is_space) places
    else tax_fits place && nat_lt before (tax_code place) && taxes_fit (tax_code place) places
