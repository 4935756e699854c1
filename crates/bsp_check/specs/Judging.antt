-- Lines that are judged one after another.
use Rattle.std.specs.Prelude.{◌≡◌, ◌<◌, ◌≤◌, ◌+◌, ◌*◌, ◌^◌, ℕ, Bool, true, false, List, [], ◌∷◌, ◌++◌, length, Option, Some, None}
use Rattle.std.specs.Io.KnownBytes.{Consumes, IsAtEnd}
use Rattle.bsp_fields.specs.Lines.{lines, IsRest}
use Rattle.bsp_explain.specs.Lines.{IsLine}
use Rattle.bsp_check.specs.declared.window.Window.{Window}
use Rattle.bsp_check.specs.Windows.{text_of, last_of, MayFollow, IsWindow}

-- some lines were taken, fewer than 2^62
abbrev pub IsAfterFew : {J : Type 0} → (J → List (List ℕ) → Type 0) → J → Type 0
IsAfterFew HasTaken judge = (ls : List (List ℕ)) × HasTaken judge ls × (length ls < 2 ^ 62)

-- these lines were taken after those before them
abbrev pub HasTakenMore : {J : Type 0} → (J → List (List ℕ) → Type 0) → List (List ℕ) → J → J → Type 0
HasTakenMore HasTaken more old new = (ls : List (List ℕ)) → HasTaken old ls → HasTaken new (ls ++ more)

-- where the line is not allowed for that reason, the refusal is that of the lines before it, the line and any after it
abbrev pub Explains : {J F E : Type 0} → (J → List (List ℕ) → Type 0) → (J → List ℕ → F → Type 0) → (List (List ℕ) → E → Type 0) → J → F → E → List ℕ → Type 0
Explains HasTaken IsAtFault IsRefusal judge fault refusal line =
    IsAtFault judge line fault → (ls : List (List ℕ)) → HasTaken judge ls → (after : List (List ℕ)) → IsRefusal (ls ++ line ∷ after) refusal

-- what is answered on the lines of a text: nothing where all were taken, fewer than 2^62
abbrev pub IsJudged : {J E : Type 0} → (J → List (List ℕ) → Type 0) → (List (List ℕ) → E → Type 0) → J → List (List ℕ) → Option E → Type 0
IsJudged HasTaken IsRefusal judge ls None = HasTaken judge ls × (length ls < 2 ^ 62)
IsJudged HasTaken IsRefusal judge ls (Some refusal) = IsRefusal ls refusal

-- so many bytes at the end of a text may lack the end of a record, which has 136 characters, and CR before LF
abbrev pub most_unended : Bool → ℕ
most_unended true = 0
most_unended false = 137

-- whatever may follow the text, its first line is not allowed, for that reason
abbrev pub BeginsAtFault : {J F : Type 0} → (J → List ℕ → F → Type 0) → Bool → J → List ℕ → F → Type 0
BeginsAtFault IsAtFault ended judge text fault =
    (more : List ℕ) → MayFollow ended more → (line : List ℕ) × (after : List (List ℕ)) × (lines (text ++ more) ≡ line ∷ after) × IsAtFault judge line fault

-- where no more lines of a text are taken: at one that is not allowed, or else where no end of a record need be in the rest
abbrev pub IsStop : {J F : Type 0} → (J → List ℕ → F → Type 0) → Bool → J → List ℕ → Option F → Type 0
IsStop IsAtFault ended judge rest (Some fault) = (0 < length rest) × BeginsAtFault IsAtFault ended judge rest fault
IsStop IsAtFault ended judge rest None = (length rest ≤ 137) × (ended ≡ true → rest ≡ [])

-- the lines of a text before the rest, of 136 characters each, were taken
pub record Takes {J : Type 0} (HasTaken : J → List (List ℕ) → Type 0) (ended : Bool) (old new : J) (text rest : List ℕ) : Type 0 where
  pub rest_is : IsRest rest text
  pub ls : List (List ℕ)
  pub are : (more : List ℕ) → MayFollow ended more → lines (text ++ more) ≡ ls ++ lines (rest ++ more)
  pub taken : HasTakenMore HasTaken ls old new
  pub room : 136 * length ls + length rest ≤ length text

-- the lines of a text before its last bytes, so many, were taken, and no more for that reason
pub record TakesTo {J F : Type 0} (HasTaken : J → List (List ℕ) → Type 0) (IsAtFault : J → List ℕ → F → Type 0) (ended : Bool) (old new : J) (text : List ℕ) (kept : ℕ) (fault : Option F) : Type 0 where
  pub rest : List ℕ
  pub long : kept ≡ length rest
  pub takes : Takes HasTaken ended old new text rest
  pub stop : IsStop IsAtFault ended new rest fault

-- the lines of an input before the last bytes of the window, so many, were taken, and no more for that reason
pub record IsTaken {J F : Type 0} (HasTaken : J → List (List ℕ) → Type 0) (IsAtFault : J → List ℕ → F → Type 0) (judge : J) (kept : ℕ) (fault : Option F) (left : ℕ) (window : Window) (before after : Option (List ℕ)) : Type 0 where
  pub front : List ℕ
  pub rest : List ℕ
  pub taken : Consumes before after (front ++ rest)
  pub within : kept ≤ window.filled
  pub rest_is : rest ≡ last_of kept (text_of window)
  pub left_is : length front + kept + window.left ≡ left
  pub sound : IsWindow window
  pub at_end : window.ended ≡ true → IsAtEnd after
  pub ls : List (List ℕ)
  pub are : (more : List ℕ) → MayFollow window.ended more → lines (front ++ (rest ++ more)) ≡ ls ++ lines (rest ++ more)
  pub has : HasTaken judge ls
  pub few : 136 * length ls ≤ length front
  pub stop : IsStop IsAtFault window.ended judge rest fault

-- bytes were read, and this is so of the first line of the text
pub record IsExplained (Says : List ℕ → Type 0) (old new : Window) (before after : Option (List ℕ)) : Type 0 where
  pub got : List ℕ
  pub taken : Consumes before after got
  pub left : new.left + length got ≡ old.left
  pub window : IsWindow new
  pub at_end : new.ended ≡ true → IsAtEnd after
  pub stays : old.ended ≡ true → (got ≡ []) × (new.ended ≡ true)
  pub says : (more : List ℕ) → MayFollow new.ended more → (line : List ℕ) → IsLine 0 (lines ((text_of old ++ got) ++ more)) line → Says line

-- the input was read to its end, and this is so of the first line of the rest
pub record IsRefused (Says : List ℕ → Type 0) (rest : List ℕ) (old new : Window) (before after : Option (List ℕ)) : Type 0 where
  pub got : List ℕ
  pub taken : Consumes before after got
  pub left : new.left + length got ≡ old.left
  pub window : IsWindow new
  pub ended : new.ended ≡ true
  pub at_end : IsAtEnd after
  pub stays : old.ended ≡ true → got ≡ []
  pub says : (line : List ℕ) → IsLine 0 (lines (rest ++ got)) line → Says line
