-- The lines of a text: cut at LF, a CR before an LF dropped, the last end optional.
use Rattle.std.specs.Prelude.{◌≡◌, ◌<◌, ◌≤◌, ◌-◌, ◌⊎◌, ℕ, ◌==◌, Bool, false, ◌&&◌, List, [], ◌∷◌, ◌++◌, length, take, drop, if◌then◌else◌}
use Rattle.std.specs.List.{list_any}
use Rattle.bsp_fields.specs.Columns.{is_wide}

abbrev pub begins_with : ℕ → List ℕ → Bool
begins_with c [] = false
begins_with c (b ∷ bytes) = b == c

-- a byte in front of the first line
abbrev pub with_first : ℕ → List (List ℕ) → List (List ℕ)
with_first b [] = (b ∷ []) ∷ []
with_first b (line ∷ lines) = (b ∷ line) ∷ lines

-- from the right, with no index: no bytes are no lines
unfoldable pub lines : List ℕ → List (List ℕ)
lines [] = []
lines (b ∷ bytes) =
    if b == 10 then [] ∷ lines bytes
    else (if (b == 13) && begins_with 10 bytes then lines bytes else with_first b (lines bytes))

-- a line without a CR at its end
abbrev pub without_cr : List ℕ → List ℕ
without_cr [] = []
without_cr (b ∷ []) = if b == 13 then [] else b ∷ []
without_cr (b ∷ c ∷ bytes) = b ∷ without_cr (c ∷ bytes)

-- the text has an LF
abbrev pub has_end : List ℕ → Bool
has_end bytes = list_any (λ b. b == 10) bytes

-- the rest is the end of the text
pub record IsRest (rest bytes : List ℕ) : Type 0 where
  pub short : length rest ≤ length bytes
  pub last : rest ≡ drop (length bytes - length rest) bytes

-- the text without the rest at its end
abbrev pub before_rest : List ℕ → List ℕ → List ℕ
before_rest bytes rest = take (length bytes - length rest) bytes

-- the text is whole lines, so that what follows begins a new one
abbrev pub IsWholeLines : List ℕ → Type 0
IsWholeLines bytes = (more : List ℕ) → lines (bytes ++ more) ≡ lines bytes ++ lines more

-- the text begins with a line and its end, and the rest follows
pub record BeginsWithLine (bytes line rest : List ℕ) : Type 0 where
  pub rest_is : IsRest rest bytes
  pub shorter : length rest < length bytes
  pub cut : (more : List ℕ) → lines (before_rest bytes rest ++ more) ≡ line ∷ lines more

-- the text's first line, which may lack an end, and the rest behind it
pub record HasFirstLine (bytes line rest : List ℕ) : Type 0 where
  pub cut : lines bytes ≡ line ∷ lines rest
  pub shorter : length rest < length bytes
  pub rest_is : IsRest rest bytes
  pub ended : BeginsWithLine bytes line rest ⊎ ((line ≡ bytes) × (rest ≡ []))

-- the text's first line is no record, since it has another width or a character that is not printable
pub record BeginsOtherwise (bytes : List ℕ) : Type 0 where
  pub line : List ℕ
  pub rest : List ℕ
  pub first : HasFirstLine bytes line rest
  pub narrow : is_wide line ≡ false
