-- Sound rows keep the rules of a HOT file.
use Rattle.std.specs.Prelude.{◌≡◌, ℕ, ◌<◌, ◌^◌, true, List, All}
use Rattle.bsp_rows.specs.CivilDay.{is_day}
use Rattle.bsp_rows.specs.Item.{Item}
use Rattle.bsp_rows.specs.Lines.{lines}
use Rattle.bsp_rows.specs.MemoFields.{MemoFields}
use Rattle.bsp_rows.specs.Period.{Period}
use Rattle.bsp_rows.specs.Reasons.{is_reason}
use Rattle.bsp_rows.specs.Rows.{Rows}
use Rattle.bsp_rows.specs.Sound.{Sound}
use Rattle.bsp_rows.specs.Stored.{IsStored, IsStoredAmount}
use Rattle.bsp_hot.specs.Sound.{KeepRules}
use Rattle.bsp_hot_check.specs.Checked.{HasTotals}
use Rattle.bsp_hot_check.specs.declared.model.HotTotals.{HotTotals}
use Rattle.bsp_messages.specs.Answers.{status_of, text_of}
use Rattle.bsp_messages.specs.declared.answer.Answer.{Answer as Message}
use Rattle.bsp_routes.specs.declared.status.Status.TheVariants as status
use Rattle.bsp_office_spec.specs.AirlineLedger.{airline_ledger_of, hot_rows}
use Rattle.bsp_office_spec.specs.Answers.{HotRows}
use Rattle.bsp_office_spec.specs.Answers.Answer.{Hot}
use Rattle.bsp_office_spec.specs.Texts.{Says}

-- ---- what the types of an item and of a memo say of their values

-- an item with a code of eight digits, a transaction whose values are those of fields, and a tax that is an amount
pub record IsTypedItem (i : Item) : Type 0 where
  pub agent : i.agent < 10 ^ 8
  pub stored : IsStored i.transaction
  pub tax : IsStoredAmount i.tax

-- a memo with codes of their digits, a reason of its characters and a day of the calendar
pub record IsTypedMemo (m : MemoFields) : Type 0 where
  pub agent : m.agent < 10 ^ 8
  pub document : m.document < 10 ^ 10
  pub reason : is_reason m.reason ≡ true
  pub issued : is_day m.issued ≡ true

-- ---- the rows of which a HOT file is made

-- each was accepted or issued, and no document is reported twice
abbrev pub SoundRowsKeepRules : Type 0
SoundRowsKeepRules =
    (rows : Rows) (airline : ℕ) (q : Period) → Sound rows →
    let shown = hot_rows (airline_ledger_of airline rows) q in
    All IsTypedItem shown.items → All IsTypedMemo shown.memos → KeepRules airline q.code shown.items shown.memos

-- where these items and memos are the rows of an airline and a period
abbrev pub KeepRulesOfSound : List Item → List MemoFields → Type 0
KeepRulesOfSound items memos =
    (rows : Rows) (airline : ℕ) (q : Period) → Sound rows →
    let shown = hot_rows (airline_ledger_of airline rows) q in
    items ≡ shown.items → memos ≡ shown.memos → KeepRules airline q.code items memos

-- ---- the text that is sent

-- `check_hot` passes it, and gives these totals
abbrev pub HotFilesPass : Type 0
HotFilesPass = (airline : ℕ) (rows : HotRows) (m : Message) → Says (Hot airline rows) m → status_of m ≡ status.Ok → (totals : HotTotals) × HasTotals (lines (text_of m)) totals
