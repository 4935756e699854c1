-- Tokens, by which a caller is known: 16 to 64 letters and digits.
use Rattle.std.specs.Prelude.{◌≡◌, ℕ, ◌-◌, ◌≤◌, ◌&&◌, Bool, IsTrue, nat_le, List, ◌++◌, length, take, replicate, Option, Some, None, if◌then◌else◌}
use Rattle.std.proofs.Common.{sym, ap}
use Rattle.std.specs.Char.{is_ascii_alphanumeric}
use Rattle.std.specs.List.{list_all}

-- 16 to 64 characters, each of `0` to `9`, `A` to `Z` and `a` to `z`
abbrev pub is_token : List ℕ → Bool
is_token text = nat_le 16 (length text) && nat_le (length text) 64 && list_all is_ascii_alphanumeric text

-- what a text reads as
abbrev pub token_reading : List ℕ → Option (List ℕ)
token_reading text = if is_token text then Some text else None

-- 64 characters, of which the first are a token and the others zeros
pub record IsTokenRoom (count : ℕ) (characters : List ℕ) : Type 0 where
  pub bound : count ≤ 64
  pub token : IsTrue (is_token (take count characters))
  pub width : length (take count characters) ≡ count
  pub filled : characters ≡ take count characters ++ replicate (64 - count) 0

-- the characters of the token with zeros behind them, and their number
abbrev pub token_room : List ℕ → List ℕ × ℕ
token_room text = (text ++ replicate (64 - length text) 0, length text)

-- the token gives back the room that holds it
pub token_given_back : (count : ℕ) (characters : List ℕ) → IsTokenRoom count characters → token_room (take count characters) ≡ (characters, count)
token_given_back count characters h = rw h.width (ap (λ (cs : List ℕ). (cs, count)) (sym h.filled))
