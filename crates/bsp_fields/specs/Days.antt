-- The numbers and the texts of days.
use Rattle.std.specs.Prelude.{◌≢◌, ℕ, ◌+◌, not, ◌&&◌, ◌==◌, Bool, IsTrue, List, [], ◌∷◌, ◌++◌, length, take, drop, slice_index, ℤ, pos, Result}
use Rattle.std.specs.Str.{all_ascii_digits}
use Rattle.jiff_core.specs.Calendar.{days_from_civil}
use Rattle.bsp_fields.specs.CivilDay.{CivilDay, is_day}
use Rattle.bsp_fields.specs.FirstFault.{first_fault_or}
use Rattle.bsp_fields.specs.Decimal.{number_of, fixed_digits}
use Rattle.bsp_fields.specs.declared.fault.FieldFault.{FieldFault}
use Rattle.bsp_fields.specs.declared.fault.FieldFault.TheVariants.{Width, NotDigit, NotDay}

-- the days since 1 January 1970
abbrev pub day_number : CivilDay → ℤ
day_number d = days_from_civil (pos d.year) d.month d.day

-- no day has this number
abbrev pub HasNoDay : ℤ → Type 0
HasNoDay number = (d : CivilDay) → IsTrue (is_day d) → day_number d ≢ number

-- the day, or NotDay
abbrev pub checked_day : CivilDay → Result CivilDay FieldFault
checked_day d = first_fault_or ((not (is_day d), NotDay) ∷ []) d

-- what the digits of a year, a month and a day read as
abbrev pub parts_reading : List ℕ → List ℕ → List ℕ → Result (ℕ × ℕ × ℕ) FieldFault
parts_reading year month day =
    first_fault_or
    ((not (all_ascii_digits year && (all_ascii_digits month && all_ascii_digits day)), NotDigit) ∷ [])
    (number_of year, number_of month, number_of day)

-- YYMMDD
abbrev pub record_text : CivilDay → List ℕ
record_text d = fixed_digits 2 d.year ++ (fixed_digits 2 d.month ++ fixed_digits 2 d.day)

-- the digits of YYMMDD
abbrev pub record_year : List ℕ → List ℕ
record_year text = take 2 text

abbrev pub record_month : List ℕ → List ℕ
record_month text = take 2 (drop 2 text)

abbrev pub record_day : List ℕ → List ℕ
record_day text = take 2 (drop 4 text)

-- what YYMMDD reads as
abbrev pub record_reading : List ℕ → Result CivilDay FieldFault
record_reading text =
    let d : CivilDay = record {
      year = 2000 + number_of (record_year text);
      month = number_of (record_month text);
      day = number_of (record_day text);
    } in
    first_fault_or
    ((not (length text == 6), Width)
    ∷ (not (all_ascii_digits (record_year text) && (all_ascii_digits (record_month text) && all_ascii_digits (record_day text))), NotDigit)
    ∷ (not (is_day d), NotDay)
    ∷ [])
    d

-- YYYY-MM-DD
abbrev pub day_text : CivilDay → List ℕ
day_text d = fixed_digits 4 d.year ++ 45 ∷ (fixed_digits 2 d.month ++ 45 ∷ fixed_digits 2 d.day)

-- the digits of YYYY-MM-DD
abbrev pub text_year : List ℕ → List ℕ
text_year text = take 4 text

abbrev pub text_month : List ℕ → List ℕ
text_month text = take 2 (drop 5 text)

abbrev pub text_day : List ℕ → List ℕ
text_day text = take 2 (drop 8 text)

-- the separators of YYYY-MM-DD are dashes
abbrev pub has_dashes : List ℕ → Bool
has_dashes text = (slice_index text 4 == 45) && (slice_index text 7 == 45)

-- what YYYY-MM-DD reads as
abbrev pub text_reading : List ℕ → Result CivilDay FieldFault
text_reading text =
    let d : CivilDay = record {
      year = number_of (text_year text);
      month = number_of (text_month text);
      day = number_of (text_day text);
    } in
    first_fault_or
    ((not (length text == 10), Width)
    ∷ (not (all_ascii_digits (text_year text) && (all_ascii_digits (text_month text) && all_ascii_digits (text_day text))), NotDigit)
    ∷ (not (has_dashes text && is_day d), NotDay)
    ∷ [])
    d
