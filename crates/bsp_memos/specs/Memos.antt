-- Which fields make a memo, and which memos are the same issue.
use Rattle.std.specs.Prelude.{◌≡◌, ℕ, ◌==◌, Bool, true, false, not, ◌&&◌, ◌||◌, if◌then◌else◌, ℤ, pos, int_le, int_lt, List, None, is_some}
use Rattle.std.specs.Ordering.{int_eq}
use Rattle.std.specs.Str.{bytes_eq}
use Rattle.bsp_fields.specs.CivilDay.{CivilDay}
use Rattle.bsp_memos.specs.declared.fields.MemoFields.{MemoFields}
use Rattle.bsp_memos.specs.declared.kind.MemoKind.{MemoKind}
use Rattle.bsp_memos.specs.declared.kind.MemoKind.TheVariants.{Debit, Credit}
use Rattle.bsp_memos.specs.declared.state.MemoState.TheVariants.{Open}
use Rattle.bsp_memos.specs.States.{is_credit, is_open, is_disputed, is_reduced, is_withdrawn}

-- 1 to 99,999,999,999
abbrev pub is_amount : ℤ → Bool
is_amount amount = int_le (pos 1) amount && int_le amount (pos 99999999999)

-- both amounts are in range, and the amount is that of the issue, or below it where the memo is reduced
abbrev pub amount_fits : MemoFields → Bool
amount_fits memo =
    is_amount memo.amount
    && is_amount memo.issued_amount
    && (if is_reduced memo.state then int_lt memo.amount memo.issued_amount else int_eq memo.amount memo.issued_amount)

-- a credit memo stays open
abbrev pub kind_fits : MemoFields → Bool
kind_fits memo = not (is_credit memo.kind) || is_open memo.state

-- a billed memo is neither disputed nor withdrawn
abbrev pub billing_fits : MemoFields → Bool
billing_fits memo = not (is_some memo.billed) || not (is_disputed memo.state || is_withdrawn memo.state)

abbrev pub is_memo : MemoFields → Bool
is_memo memo = amount_fits memo && (kind_fits memo && billing_fits memo)

-- the memo that an airline issues to an agent on a day: open, and not billed
abbrev pub issued_memo : ℕ → ℕ → ℕ → MemoKind → ℤ → List ℕ → CivilDay → MemoFields
issued_memo airline document agent kind amount reason issued = record {
  airline = airline;
  document = document;
  agent = agent;
  kind = kind;
  amount = amount;
  issued_amount = amount;
  reason = reason;
  issued = issued;
  state = Open;
  billed = None;
}

-- what an issue is compared by, beside airline and document
pub record IsSameIssue (memo other : MemoFields) : Type 0 where
  pub agent : other.agent ≡ memo.agent
  pub kind : other.kind ≡ memo.kind
  pub reason : other.reason ≡ memo.reason
  pub amount : other.issued_amount ≡ memo.issued_amount

abbrev pub same_kind : MemoKind → MemoKind → Bool
same_kind Debit Debit = true
same_kind Credit Credit = true
same_kind Debit Credit = false
same_kind Credit Debit = false

-- the same as a test
abbrev pub is_same_issue : MemoFields → MemoFields → Bool
is_same_issue memo other =
    ((memo.agent == other.agent) && same_kind memo.kind other.kind)
    && (bytes_eq memo.reason other.reason && int_eq memo.issued_amount other.issued_amount)
