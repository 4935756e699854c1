-- Days in order.
use Rattle.std.specs.Prelude.{◌&&◌, ◌==◌, Bool, pos, ◌+ℤ◌, int_le, int_lt}
use Rattle.std.specs.Ordering.{int_eq}
use Rattle.bsp_fields.specs.CivilDay.{CivilDay}
use Rattle.bsp_fields.specs.Days.{day_number}

-- a is not after b
abbrev pub is_up_to : CivilDay → CivilDay → Bool
is_up_to a b = int_le (day_number a) (day_number b)

-- a is before b
abbrev pub is_before : CivilDay → CivilDay → Bool
is_before a b = int_lt (day_number a) (day_number b)

-- b is the day after a
abbrev pub is_next_day : CivilDay → CivilDay → Bool
is_next_day a b = int_eq (day_number b) (day_number a +ℤ pos 1)

abbrev pub same_day : CivilDay → CivilDay → Bool
same_day a b = (a.year == b.year) && ((a.month == b.month) && (a.day == b.day))
