-- Ranges that have no number in common.
use Rattle.std.specs.Prelude.{ℕ, ◌≤◌, nat_lt, nat_le, Bool, true, ◌&&◌, List, [], ◌∷◌, count_by, Option, Some, None}
use Rattle.std.specs.List.{All}
use Rattle.bsp_maps.specs.declared.spans.Span.{Span}

abbrev pub contains : ℕ → Span → Bool
contains n s = nat_le s.first n && nat_le n s.last

abbrev pub IsRange : Span → Type 0
IsRange s = s.first ≤ s.last

-- each has a number, and no number is in two
pub record AreDisjoint (spans : List Span) : Type 0 where
  pub ranges : All IsRange spans
  pub once : (n : ℕ) → count_by (contains n) spans ≤ 1

-- the number is above the end, if there is one
abbrev pub above : Option ℕ → ℕ → Bool
above None n = true
above (Some last) n = nat_lt last n

-- each has a number, and begins above the end of the one before it
abbrev pub apart_from : Option ℕ → List Span → Bool
apart_from end [] = true
apart_from end (s ∷ ss) = (above end s.first && nat_le s.first s.last) && apart_from (Some s.last) ss
