-- Kinds, states and faults as text.
use Rattle.std.specs.Prelude.{ℕ, List, codes, Option, Some, None, if◌then◌else◌}
use Rattle.std.specs.Str.{bytes_eq}
use Rattle.bsp_memos.specs.declared.kind.MemoKind.{MemoKind}
use Rattle.bsp_memos.specs.declared.kind.MemoKind.TheVariants.{Debit, Credit}
use Rattle.bsp_memos.specs.declared.state.MemoState.{MemoState}
use Rattle.bsp_memos.specs.declared.state.MemoState.TheVariants.{Open, Agreed, Disputed, Upheld, Reduced, Withdrawn}
use Rattle.bsp_memos.specs.declared.fault.MemoFault.{MemoFault}
use Rattle.bsp_memos.specs.declared.fault.MemoFault.TheVariants.{NoSuchMemo, ReviewOver, StateForbids, AmountOutOfRange, OtherContent, CreditMemo, LimitReached, AgentNotRegistered}

abbrev pub kind_text : MemoKind → List ℕ
kind_text Debit = codes "ADMA"
kind_text Credit = codes "ACMA"

abbrev pub kind_reading : List ℕ → Option MemoKind
kind_reading text =
    if bytes_eq text (codes "ADMA") then Some Debit else (if bytes_eq text (codes "ACMA") then Some Credit else None)

abbrev pub state_text : MemoState → List ℕ
state_text Open = codes "open"
state_text Agreed = codes "agreed"
state_text Disputed = codes "disputed"
state_text Upheld = codes "upheld"
state_text Reduced = codes "reduced"
state_text Withdrawn = codes "withdrawn"

abbrev pub state_reading : List ℕ → Option MemoState
state_reading text =
    if bytes_eq text (codes "open") then Some Open
    else (if bytes_eq text (codes "agreed") then Some Agreed
    else (if bytes_eq text (codes "disputed") then Some Disputed
    else (if bytes_eq text (codes "upheld") then Some Upheld
    else (if bytes_eq text (codes "reduced") then Some Reduced
    else (if bytes_eq text (codes "withdrawn") then Some Withdrawn else None)))))

abbrev pub fault_text : MemoFault → List ℕ
fault_text NoSuchMemo = codes "M01"
fault_text ReviewOver = codes "M02"
fault_text StateForbids = codes "M03"
fault_text AmountOutOfRange = codes "M04"
fault_text OtherContent = codes "M05"
fault_text CreditMemo = codes "M06"
fault_text LimitReached = codes "M07"
fault_text AgentNotRegistered = codes "M08"
