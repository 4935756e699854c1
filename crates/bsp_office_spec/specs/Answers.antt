-- What a request is answered, before it is a text.
use Rattle.std.specs.Prelude.{ℕ, Bool, true, false, List, [], Option}
use Rattle.bsp_rows.specs.Change.{Change}
use Rattle.bsp_rows.specs.Change.TheVariants as change
use Rattle.bsp_rows.specs.Period.{Period}
use Rattle.bsp_rows.specs.Terms.{Terms}
use Rattle.bsp_hot.specs.RetFault.{RetFault}
use Rattle.bsp_hot_check.specs.FileForm.{FileForm}
use Rattle.bsp_rows.specs.Item.{Item}
use Rattle.bsp_rows.specs.Verdict.{Verdict}
use Rattle.bsp_rows.specs.MemoFields.{MemoFields}
use Rattle.bsp_rows.specs.Posting.{Posting}
use Rattle.bsp_messages.specs.declared.answer.DocumentShown.{DocumentShown}
use Rattle.bsp_messages.specs.declared.answer.PeriodShown.{PeriodShown}
use Rattle.bsp_messages.specs.declared.answer.RangeShown.{RangeShown}
use Rattle.bsp_messages.specs.declared.refusal.RequestRefusal.{RequestRefusal}

-- what a statement and a settlement are made of: the closed period, the published terms and what the rows post in it
pub record Report : Type 0 where
  pub period : Period
  pub terms : Option Terms
  pub postings : List Posting

-- what a HOT file is made of: the closed period and its form, the published terms and the rows of the airline
pub record HotRows : Type 0 where
  pub period : Period
  pub form : FileForm
  pub terms : Option Terms
  pub items : List Item
  pub memos : List MemoFields

-- a 503 is no answer; whether the counts and totals of a HOT file fit is decided by its rows, with its text
pub data Answer : Type 0 where
  Changed : (change : Change) → Answer
  Verdicts : (verdicts : List Verdict) → Answer
  Document : (document : DocumentShown) → Answer
  InPeriod : (period : PeriodShown) → Answer
  Ranges : (ranges : List RangeShown) → Answer
  Memos : (memos : List MemoFields) → Answer
  -- with the tax on commission in a period of form 2
  Statement : (agent : ℕ) → (taxed : Bool) → (report : Report) → Answer
  Settlement : (report : Report) → Answer
  Hot : (airline : ℕ) → (rows : HotRows) → Answer
  FileFault : (fault : RetFault) → Answer
  Refused : (refusal : RequestRefusal) → Answer

-- a change is done
abbrev pub is_done : Answer → Bool
is_done (Changed change.Done) = true
is_done (Changed change.Held) = false
is_done _ = false

-- the verdicts on a file, none in any other answer
abbrev pub verdicts_in : Answer → List Verdict
verdicts_in (Verdicts verdicts) = verdicts
verdicts_in _ = []
