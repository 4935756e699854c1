-- The items of a document number.
use Rattle.std.specs.Prelude.{ℕ, Bool, ◌&&◌, not, List}
use Rattle.bsp_rules.specs.Rows.{has_number, is_canx}
use Rattle.bsp_rules.specs.declared.rows.Item.{Item}

-- its TKTT or RFND
abbrev pub is_sale_of : List ℕ → Item → Bool
is_sale_of number i = has_number number i && not (is_canx i)

-- its CANX
abbrev pub is_canx_of : List ℕ → Item → Bool
is_canx_of number i = has_number number i && is_canx i
