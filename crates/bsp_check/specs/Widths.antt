-- Lines that are longer than a window.
use Rattle.std.specs.Prelude.{◌≡◌, ◌+◌, ◌-◌, ℕ, true, List, [], ◌++◌, length, take, Option}
use Rattle.std.specs.Io.KnownBytes.{Consumes, IsAtEnd}
use Rattle.bsp_ret.specs.Lines.{lines}
use Rattle.bsp_explain.specs.Lines.{IsLine}
use Rattle.bsp_check.specs.declared.window.Window.{Window}
use Rattle.bsp_check.specs.Windows.{IsWindow}

-- a text without its last byte, which may be the CR of an end
abbrev pub all_but_one : List ℕ → List ℕ
all_but_one text = take (length text - 1) text

-- the first line of the text has this width, and begins with the text but its last byte
pub record HasWidth (text : List ℕ) (width : ℕ) (old new : Window) (before after : Option (List ℕ)) : Type 0 where
  pub got : List ℕ
  pub taken : Consumes before after got
  pub left : new.left + length got ≡ old.left
  pub window : IsWindow new
  pub at_end : new.ended ≡ true → IsAtEnd after
  pub width_is : (more : List ℕ) → (new.ended ≡ true → more ≡ []) → (line : List ℕ) → IsLine 0 (lines (text ++ (got ++ more))) line → length line ≡ width
  pub begins : (more : List ℕ) → (new.ended ≡ true → more ≡ []) → (line : List ℕ) → IsLine 0 (lines (text ++ (got ++ more))) line → (after_it : List ℕ) × (line ≡ all_but_one text ++ after_it)
