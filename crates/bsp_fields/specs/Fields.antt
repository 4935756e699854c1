-- Kinds of fields.
use Rattle.std.specs.Prelude.{ℕ, ◌==◌, nat_le, Bool, ◌&&◌, List, is_ok}
use Rattle.std.specs.Str.{all_ascii_digits}
use Rattle.bsp_fields.specs.Decimal.{number_of}
use Rattle.bsp_fields.specs.Zoned.{zoned_reading}
use Rattle.bsp_fields.specs.Days.{record_reading}

-- the digits write n
abbrev pub spells : ℕ → List ℕ → Bool
spells n text = all_ascii_digits text && (number_of text == n)

-- the digits write n or less
abbrev pub spells_at_most : ℕ → List ℕ → Bool
spells_at_most n text = all_ascii_digits text && nat_le (number_of text) n

abbrev pub is_amount : List ℕ → Bool
is_amount text = is_ok (zoned_reading 11 text)

abbrev pub is_total : List ℕ → Bool
is_total text = is_ok (zoned_reading 15 text)

abbrev pub is_record_day : List ℕ → Bool
is_record_day text = is_ok (record_reading text)
