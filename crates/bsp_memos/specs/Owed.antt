-- What is owed by a memo, and in which period it is billed.
use Rattle.std.specs.Prelude.{ℕ, ℤ, pos, ◌-ℤ◌, ◌==◌, Bool, false, Option, Some, None}
use Rattle.bsp_memos.specs.declared.kind.MemoKind.{MemoKind}
use Rattle.bsp_memos.specs.declared.kind.MemoKind.TheVariants.{Debit, Credit}
use Rattle.bsp_memos.specs.declared.fields.MemoFields.{MemoFields}

-- an ADMA is owed by the agent, an ACMA to the agent
abbrev pub amount_owed : MemoKind → ℤ → ℤ
amount_owed Debit amount = amount
amount_owed Credit amount = pos 0 -ℤ amount

abbrev pub is_period : ℕ → Option ℕ → Bool
is_period period None = false
is_period period (Some other) = other == period

-- a memo billed in the period
abbrev pub is_billed_in : ℕ → MemoFields → Bool
is_billed_in period m = is_period period m.billed
