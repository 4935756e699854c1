-- The billings of a close, memo by memo and of all rows.
use Rattle.std.specs.Prelude.{◌≡◌, ℕ, Some}
use Rattle.bsp_rows.specs.CivilDay.{CivilDay}
use Rattle.bsp_memos.specs.Lives.{after_event}
use Rattle.bsp_memos.specs.Lives.Event.{Closed}
use Rattle.bsp_memos.specs.declared.fields.MemoFields.{MemoFields}
use Rattle.bsp_rows.specs.Changes.{each}
use Rattle.bsp_rows.specs.Rows.{Rows, memo_at, memo_key}
use Rattle.bsp_rows.specs.Writes.{changed}
use Rattle.bsp_office_spec.specs.Ledger.{review_of}

-- the memo is at its key
abbrev pub IsAsRead : MemoFields → Rows → Type 0
IsAsRead memo rows = memo_at (memo_key memo) rows ≡ Some memo

-- the memo of its key as the close of a period on a day leaves it
abbrev pub with_closed_memo : MemoFields → ℕ → CivilDay → ℕ → Rows → Rows
with_closed_memo memo period day review rows =
    record rows { memos = changed (after_event review (Closed period day)) (memo_key memo) rows.memos }

-- each memo as the close of a period on the business day leaves it
abbrev pub with_billings : ℕ → Rows → Rows
with_billings period rows =
    record rows { memos = each (after_event (review_of rows.published.terms) (Closed period rows.published.day)) rows.memos }
