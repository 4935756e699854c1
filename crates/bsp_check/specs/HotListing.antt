-- The list of the lines of a HOT file that were taken, while more may come.
use Rattle.std.specs.Prelude.{◌≡◌, ◌≤◌, ◌<◌, ◌+◌, ◌^◌, ℕ, List, [], ◌++◌, length, map, Option, Some, None}
use Rattle.bsp_hot_records.specs.declared.form.FileForm.{FileForm}
use Rattle.bsp_hot_records.specs.declared.model.Record.{Record}
use Rattle.bsp_hot_records.specs.declared.model.Record.TheVariants as record_is
use Rattle.bsp_hot_records.specs.Sums.{AreSmall, add, no_sums, one_document, sum_of, with_net}
use Rattle.bsp_hot_check.specs.Standings.{judged_sums}
use Rattle.bsp_check.specs.HotLines.{amounts_text, document_key, form_after, issued_text, list_from, list_text, listed, parts_in}
use Rattle.bsp_check.specs.declared.hot_list.HotList.{HotList}
use Rattle.bsp_check.specs.declared.hot_list.Stage.{Stage}
use Rattle.bsp_check.specs.declared.hot_list.Stage.TheVariants.{Between, Document, Ended}

-- ---- a record

-- what is listed of a record before those that follow it: of a document all but its amounts
abbrev pub begun : Record → List ℕ → List ℕ
begun (record_is.Document d) line = document_key d ++ issued_text line
begun r line = listed r line no_sums

abbrev pub stage_after : Record → Stage
stage_after (record_is.Document d) = Document one_document
stage_after _ = Between

abbrev pub form_of : FileForm → Record → FileForm
form_of = form_after

-- the stage with a record that is a part of the document whose records come
abbrev pub stage_with : Stage → Option Record → Option Stage
stage_with (Document s) (Some (record_is.PartOf x)) = Some (Document (add s (judged_sums x.part)))
stage_with _ _ = None

-- the amounts of the document whose records came
abbrev pub ended : Stage → List ℕ
ended (Document s) = amounts_text (with_net s)
ended _ = []

-- a line was taken that is no part of a document
abbrev pub IsOtherTaken : HotList → HotList → Option Record → List ℕ → Type 0
IsOtherTaken old new None line = (new.text.items ≡ old.text.items ++ ended old.stage) × (new.stage ≡ Ended) × (new.next ≡ old.next)
IsOtherTaken old new (Some r) line =
    (new.text.items ≡ (old.text.items ++ ended old.stage) ++ begun r line) × (new.stage ≡ stage_after r) × (new.form ≡ form_of old.form r) × (new.next ≡ old.next)

-- ---- the lines

-- what the lines that follow add to the list
abbrev pub left : Stage → FileForm → ℕ → List (List ℕ) → List ℕ
left Between form n lines = list_from form n lines
left (Document s) form n lines = amounts_text (with_net (add s (sum_of (map judged_sums (parts_in form n lines))))) ++ list_from form n lines
left Ended form n lines = []

-- the sums are of fewer records
abbrev pub IsSmallStage : ℕ → Stage → Type 0
IsSmallStage n (Document s) = AreSmall n s
IsSmallStage n _ = Unit {0}

-- these lines were taken: whatever follows them, the list is the text and what that adds
pub record IsListOf (list : HotList) (ls : List (List ℕ)) : Type 0 where
  pub few : list.next ≤ length ls + 1
  pub small : IsSmallStage list.next list.stage
  pub text : (more : List (List ℕ)) → list.text.items ++ left list.stage list.form list.next more ≡ list_text (ls ++ more)

-- some lines were taken, fewer than 2^62
abbrev pub IsListOfFew : HotList → Type 0
IsListOfFew list = (ls : List (List ℕ)) × IsListOf list ls × (length ls < 2 ^ 62)
