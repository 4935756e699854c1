-- The fields of a head: a name and a value each, without the white space around the value.
use Rattle.std.specs.Prelude.{ℕ, Bool, ◌&&◌, List, [], ◌∷◌, map, codes, Option, Some, None, filter}
use Rattle.std.specs.Char.{eq_ignore_ascii_case}
use Rattle.std.specs.Cmp.Lexicographic.{pointwise}
use Rattle.bsp_routes.specs.Elements.{has_element}

abbrev pub Header : Type 0
Header = List ℕ × List ℕ

-- the field has that name, in any letter case
abbrev pub is_named : List ℕ → Header → Bool
is_named name header = pointwise eq_ignore_ascii_case header.0 name

-- the values of the fields of that name
abbrev pub values : List ℕ → List Header → List (List ℕ)
values name headers = map (λ h. h.1) (filter (is_named name) headers)

-- a Connection field with the element close
abbrev pub is_close : Header → Bool
is_close header = is_named (codes "connection") header && has_element (codes "close") header.1

-- an Expect field whose value is 100-continue, in any letter case
abbrev pub is_expect : Header → Bool
is_expect header = is_named (codes "expect") header && pointwise eq_ignore_ascii_case header.1 (codes "100-continue")

-- the one value, where there is exactly one
abbrev pub the_one : List (List ℕ) → Option (List ℕ)
the_one [] = None
the_one (value ∷ []) = Some value
the_one (value ∷ (other ∷ more)) = None

-- the token of a request: the value of its one Bsp-Token field
abbrev pub token_of : List Header → Option (List ℕ)
token_of headers = the_one (values (codes "bsp-token") headers)
