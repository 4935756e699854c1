-- A RET file that is judged while it is read.
use Rattle.std.specs.Prelude.{◌≡◌, ℕ, List, Some}
use Rattle.bsp_ret.specs.PaidSale.{PaidSale}
use Rattle.bsp_ret.specs.Judging.{AreTaken}
use Rattle.bsp_ret.specs.Table.{first_fault}
use Rattle.bsp_explain.specs.RetFaults.{SaysOfRetFault}
use Rattle.bsp_check.specs.declared.ret_judging.RetJudge.{RetJudge}
use Rattle.bsp_check.specs.declared.ret_judging.RetRefusal.{RetRefusal}
use Rattle.bsp_check.specs.RetReport.{transactions_text}

-- these lines were taken, and the text has the lines of the transactions that are complete
abbrev pub HasTakenRet : RetJudge → List (List ℕ) → Type 0
HasTakenRet judge ls = (sales : List PaidSale) × AreTaken ls judge.judging sales × (judge.text.items ≡ transactions_text 1 sales)

-- the first fault of the lines, and its explanation
pub record IsRetRefusal (ls : List (List ℕ)) (refusal : RetRefusal) : Type 0 where
  pub is_first : first_fault ls ≡ Some refusal.fault
  pub says : SaysOfRetFault ls refusal.explanation
