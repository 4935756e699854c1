-- What actions and closes keep of a memo: that its fields fit together, and all of it once it is billed.
use Rattle.std.specs.Prelude.{◌≡◌, ℕ, Bool, true, int_le, is_some, List, ℤ}
use Rattle.std.specs.List.{list_all}
use Rattle.bsp_fields.specs.CivilDay.{CivilDay}
use Rattle.bsp_fields.specs.Days.{day_number}
use Rattle.bsp_memos.specs.declared.fields.MemoFields.{MemoFields}
use Rattle.bsp_memos.specs.declared.kind.MemoKind.{MemoKind}
use Rattle.bsp_memos.specs.Memos.{is_amount, is_memo, issued_memo}
use Rattle.bsp_memos.specs.Billing.{admits, billed_in, is_rightly_billed}
use Rattle.bsp_memos.specs.Lives.{Event, Acted, Closed, after_events, IsIssued}

-- the memo of an issue is as a memo is issued, and its fields fit together
abbrev pub IsIssueSound : Type 0
IsIssueSound =
    (airline document agent : ℕ) (kind : MemoKind) (amount : ℤ) (reason : List ℕ) (issued : CivilDay) → is_amount amount ≡ true →
    let memo = issued_memo airline document agent kind amount reason issued in IsIssued memo × (is_memo memo ≡ true)

-- fields that fit together do so after any actions and closes
abbrev pub IsFitKept : Type 0
IsFitKept =
    (review : ℕ) (events : List Event) (memo : MemoFields) → is_memo memo ≡ true → is_memo (after_events review events memo) ≡ true

-- a billed memo stays as it is through any actions and closes
abbrev pub IsBilledUnchanged : Type 0
IsBilledUnchanged =
    (review : ℕ) (events : List Event) (memo : MemoFields) → is_memo memo ≡ true → is_some memo.billed ≡ true → after_events review events memo ≡ memo

-- a memo that a close on a day admits is rightly billed on that day
abbrev pub IsRightAtClose : Type 0
IsRightAtClose =
    (review period : ℕ) (day : CivilDay) (memo : MemoFields) → admits memo day review ≡ true → is_rightly_billed (billed_in period memo) day review ≡ true

-- what is rightly billed on a day is so on each later day
abbrev pub IsRightLater : Type 0
IsRightLater =
    (review : ℕ) (day later : CivilDay) (memo : MemoFields) → int_le (day_number day) (day_number later) ≡ true →
    is_rightly_billed memo day review ≡ true → is_rightly_billed memo later review ≡ true

-- no close after this day
abbrev pub is_closed_by : CivilDay → Event → Bool
is_closed_by last (Acted action day) = true
is_closed_by last (Closed period day) = int_le (day_number day) (day_number last)

-- a memo that is billed after any actions and closes from its issue on, no close after a day, is rightly billed on that day
abbrev pub IsRightSinceIssue : Type 0
IsRightSinceIssue =
    (review : ℕ) (events : List Event) (memo : MemoFields) (day : CivilDay) → IsIssued memo → list_all (is_closed_by day) events ≡ true →
    let end = after_events review events memo in is_some end.billed ≡ true → is_rightly_billed end day review ≡ true
