-- The reasons of memos.
use Rattle.std.specs.Prelude.{◌≡◌, ℕ, ◌-◌, ◌≤◌, ◌&&◌, Bool, IsTrue, nat_le, List, ◌++◌, length, take, replicate, Option, Some, None, if◌then◌else◌}
use Rattle.std.proofs.Common.{sym, ap}
use Rattle.std.specs.Int.{is_in_range}
use Rattle.std.specs.List.{list_all}

-- 1 to 40 characters from 0x20 to 0x7E
abbrev pub is_reason : List ℕ → Bool
is_reason text = nat_le 1 (length text) && nat_le (length text) 40 && list_all (is_in_range 32 126) text

-- what a text reads as
abbrev pub reason_reading : List ℕ → Option (List ℕ)
reason_reading text = if is_reason text then Some text else None

-- 40 characters, of which the first are a reason and the others spaces
pub record IsFilled (count : ℕ) (characters : List ℕ) : Type 0 where
  pub bound : count ≤ 40
  pub reason : IsTrue (is_reason (take count characters))
  pub width : length (take count characters) ≡ count
  pub filled : characters ≡ take count characters ++ replicate (40 - count) 32

-- the characters of the reason, filled again, and their number
abbrev pub kept_as : List ℕ → List ℕ × ℕ
kept_as text = (text ++ replicate (40 - length text) 32, length text)

-- the reason gives back what holds it
pub given_back : (count : ℕ) (characters : List ℕ) → IsFilled count characters → kept_as (take count characters) ≡ (characters, count)
given_back count characters h = rw h.width (ap (λ (cs : List ℕ). (cs, count)) (sym h.filled))
