-- The verdict on an input, with its exit status and the explanation of a fault.
use Rattle.std.specs.Prelude.{◌≡◌, ℕ, ◌-◌, List, take, Result, Ok, Err, Some, None}
use Rattle.bsp_ret.specs.Lines.{lines}
use Rattle.bsp_hot_check.specs.Hot.{IsFirstFault}
use Rattle.bsp_hot_check.specs.declared.model.Standing.{Standing}
use Rattle.bsp_hot_check.specs.Standings.{start}
use Rattle.bsp_hot_explain.specs.declared.explanation.HotExplanation.{HotExplanation}
use Rattle.bsp_explain.specs.Lines.{IsLine}
use Rattle.bsp_explain.specs.RetFaults.{SaysOfRetFault}
use Rattle.bsp_hot_explain.specs.Headings.{heading_in}
use Rattle.bsp_hot_check.specs.Judging.{stands_after}
use Rattle.bsp_hot_explain.specs.HotReasons.{SaysOfHot, record_name}
use Rattle.bsp_check.specs.declared.fault.Fault.{Fault}
use Rattle.bsp_check.specs.declared.verdict.Explanation.TheVariants.{Ret, Hot}
use Rattle.bsp_check.specs.declared.verdict.Verdict.{Verdict}
use Rattle.bsp_check.specs.declared.verdict.Verdict.TheVariants.{Passed, Refused}

-- the exit status that goes with a verdict
abbrev pub verdict_status : Verdict → ℕ
verdict_status (Passed heading) = 0
verdict_status (Refused explanation) = 1

-- and with the answer of a command: 3 where no whole report was written
abbrev pub status_of : Result Verdict Fault → ℕ
status_of (Ok verdict) = verdict_status verdict
status_of (Err fault) = 3

-- what a verdict says of the bytes, as a RET file: of one without fault nothing
abbrev pub IsRetExplained : List ℕ → Verdict → Type 0
IsRetExplained bytes (Passed heading) = heading ≡ None
IsRetExplained bytes (Refused (Ret explanation)) = SaysOfRetFault (lines bytes) explanation
IsRetExplained bytes (Refused (Hot explanation)) = ⊥

-- the explanation is of the first record of the bytes at fault, as a HOT file; the records before it have this state
pub record SaysOfHotFault (bytes : List ℕ) (explanation : HotExplanation) : Type 0 where
  pub is_first : IsFirstFault (lines bytes) explanation.record
  pub state : Standing
  pub stands : stands_after start (take (explanation.record - 1) (lines bytes)) ≡ Some state
  pub name : (line : List ℕ) → IsLine (explanation.record - 1) (lines bytes) line → explanation.name ≡ record_name line
  pub says : (line : List ℕ) → IsLine (explanation.record - 1) (lines bytes) line → SaysOfHot state line explanation.reason

-- what a verdict says of the bytes, as a HOT file: of one without fault what BFH01 says
abbrev pub IsHotExplained : List ℕ → Verdict → Type 0
IsHotExplained bytes (Passed heading) = heading ≡ heading_in (lines bytes)
IsHotExplained bytes (Refused (Ret explanation)) = ⊥
IsHotExplained bytes (Refused (Hot explanation)) = SaysOfHotFault bytes explanation
