-- The length of a body, as its fields give it.
use Rattle.std.specs.Prelude.{ℕ, Bool, ◌&&◌, not, List, [], ◌∷◌, length, if◌then◌else◌, ◌==◌, nat_lt, Result, Ok, Err}
use Rattle.std.specs.List.{list_all}
use Rattle.std.specs.Char.{is_ascii_digit}
use Rattle.std.specs.Str.Parse.{digits_value}
use Rattle.bsp_routes.specs.declared.fault.HeadFault.{HeadFault}
use Rattle.bsp_routes.specs.declared.fault.HeadFault.TheVariants.{Malformed, LengthRequired, BodyTooLarge}

-- digits, at least one
abbrev pub is_number : List ℕ → Bool
is_number text = not (length text == 0) && list_all is_ascii_digit text

abbrev pub body_limit : ℕ
body_limit = 4194304

abbrev pub sized : ℕ → Result ℕ HeadFault
sized len = if nat_lt body_limit len then Err BodyTooLarge else Ok len

abbrev pub measured : List ℕ → Result ℕ HeadFault
measured text = if is_number text then sized (digits_value 10 text) else Err Malformed

-- the values of Content-Length give the body's length; a POST needs one
abbrev pub framed : Bool → List (List ℕ) → Result ℕ HeadFault
framed posts [] = if posts then Err LengthRequired else Ok 0
framed posts (text ∷ []) = measured text
framed posts (text ∷ (other ∷ more)) = Err Malformed
