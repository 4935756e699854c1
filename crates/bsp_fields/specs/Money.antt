-- Money as text.
use Rattle.std.specs.Prelude.{ℕ, ◌/◌, ◌%◌, List, [], ◌∷◌, ◌++◌, if◌then◌else◌, ℤ, unsigned_abs}
use Rattle.std.specs.Fmt.{decimal}
use Rattle.std.specs.Int.{is_negative}
use Rattle.bsp_fields.specs.Decimal.{fixed_digits}

-- units, a point and two digits, with a minus in front below zero
abbrev pub money_text : ℤ → List ℕ
money_text amount =
    (if is_negative amount then 45 ∷ [] else [])
    ++ (decimal (unsigned_abs amount / 100) ++ 46 ∷ fixed_digits 2 (unsigned_abs amount % 100))
