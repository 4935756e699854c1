-- The end of a text that is judged in pieces.
use Rattle.std.specs.Prelude.{◌≡◌, ℕ, List, ◌∷◌, ◌++◌, Some, None}
use Rattle.bsp_fields.specs.Lines.{lines, IsRest}
use Rattle.bsp_hot_check.specs.declared.model.Standing.{Standing}
use Rattle.bsp_hot_check.specs.Judging.{step_line, stands_after}

-- after this state the first of the lines is not allowed
pub record AreRefused (at : Standing) (ls : List (List ℕ)) : Type 0 where
  pub line : List ℕ
  pub more : List (List ℕ)
  pub are : ls ≡ line ∷ more
  pub refused : step_line at line ≡ None

-- the text ends, and of its lines those before the rest are records after this state; then the state is this
pub record Passes (at : Standing) (text : List ℕ) (then : Standing) (rest : List ℕ) : Type 0 where
  pub rest_is : IsRest rest text
  pub front : List (List ℕ)
  pub are : lines text ≡ front ++ lines rest
  pub stands : stands_after at front ≡ Some then
