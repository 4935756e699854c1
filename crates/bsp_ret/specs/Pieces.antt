-- A text that comes in pieces.
use Rattle.std.specs.Prelude.{◌≡◌, ℕ, ◌+◌, true, false, List, [], ◌++◌, length, Some}
use Rattle.bsp_ret.specs.declared.model.FaultCode.{FaultCode}
use Rattle.bsp_ret.specs.declared.model.RetFault.{RetFault}
use Rattle.bsp_ret.specs.declared.model.Progress.{Progress}
use Rattle.bsp_ret.specs.declared.model.Progress.TheVariants.{Reading, Ended, Failed}
use Rattle.bsp_ret.specs.declared.notes.Notes.{Notes}
use Rattle.bsp_ret.specs.declared.notes.Place.{Place}
use Rattle.bsp_ret.specs.declared.pieces.Stop.{Stop}
use Rattle.bsp_ret.specs.declared.pieces.Stop.TheVariants.{Memory, Fault}
use Rattle.bsp_fields.specs.Lines.{lines, has_end, IsRest, before_rest, IsWholeLines}
use Rattle.bsp_ret.specs.Table.{standing, has_ended, first_fault}
use Rattle.bsp_ret.specs.Standings.{fault_behind}
use Rattle.bsp_ret.specs.Notes.{IsNotedTo, IsFileNoted}

-- the bytes that came, and how far the reader is
pub record Fed : Type 0 where
  pub bytes : List ℕ
  pub progress : Progress

-- however the text goes on, this is its first fault
abbrev pub IsFinal : List ℕ → RetFault → Type 0
IsFinal bytes fault = (more : List ℕ) → first_fault (lines (bytes ++ more)) ≡ Some fault

-- no line of these is at fault: the first fault is that of what follows them
abbrev pub IsClear : List (List ℕ) → Type 0
IsClear ls = (more : List (List ℕ)) → first_fault (ls ++ more) ≡ fault_behind (standing ls) more

-- each line that has an end is without fault, and nothing stands behind a trailer
pub record IsClearSoFar (bytes : List ℕ) : Type 0 where
  pub rest : List ℕ
  pub rest_is : IsRest rest bytes
  pub unended : has_end rest ≡ false
  pub whole : IsWholeLines (before_rest bytes rest)
  pub clear : IsClear (lines (before_rest bytes rest))
  pub nothing_behind : has_ended (standing (lines (before_rest bytes rest))).last ≡ true → rest ≡ []

-- the fault of the record that would come next
abbrev pub fault_at_end : FaultCode → List ℕ → RetFault
fault_at_end code bytes = record { code = code; at = length (lines bytes) + 1 }

-- ---- what a reader knows of its bytes

-- by how far the reader is
abbrev pub IsKnown : Progress → Notes → List Place → List ℕ → Type 0
IsKnown Reading notes closed bytes = IsNotedTo notes closed bytes
IsKnown Ended notes closed bytes = IsFileNoted notes closed bytes
IsKnown (Failed fault) notes closed bytes = Unit {0}

-- why lines are not judged on: this is the first fault, however the text goes on; or no memory
abbrev pub IsStop : List ℕ → Stop → Type 0
IsStop bytes Memory = Unit {0}
IsStop bytes (Fault fault) = IsFinal bytes fault
