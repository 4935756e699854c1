-- The explanation of the first fault of a RET file.
use Rattle.std.specs.Prelude.{◌≡◌, ℕ, ◌-◌, true, List, take, Some}
use Rattle.bsp_ret.specs.declared.model.RetFault.{RetFault}
use Rattle.bsp_ret.specs.declared.model.Standing.{Standing}
use Rattle.bsp_ret.specs.Table.{standing, first_fault}
use Rattle.bsp_explain.specs.declared.explanation.Explanation.{Explanation}
use Rattle.bsp_explain.specs.declared.reason.Reason.TheVariants.{NoTrailer}
use Rattle.bsp_explain.specs.Lines.{IsLine}
use Rattle.bsp_explain.specs.RetReasons.{Says, is_reason_of}

-- the explanation is of the first fault of the lines; a missing trailer has to state what is counted in the lines before it
pub record SaysOfRetFault (ls : List (List ℕ)) (explanation : Explanation) : Type 0 where
  pub fault : RetFault
  pub is_first : first_fault ls ≡ Some fault
  pub number : explanation.record ≡ fault.at
  pub row : is_reason_of fault.code explanation.reason ≡ true
  pub says : (line : List ℕ) → IsLine (fault.at - 1) ls line → Says fault.at (standing (take (fault.at - 1) ls)) line explanation.reason
  pub trailer : (records : ℕ) (at : Standing) → explanation.reason ≡ NoTrailer records at → (records ≡ fault.at) × (at ≡ standing (take (fault.at - 1) ls))
