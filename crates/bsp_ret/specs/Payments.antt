-- What the last group pays.
use Rattle.std.specs.Prelude.{ℕ, ℤ, pos, ◌+ℤ◌}
use Rattle.bsp_ret_records.specs.declared.codes.FormOfPayment.TheVariants.{Cash, Credit, Exchange}
use Rattle.bsp_ret.specs.declared.model.LastRecord.{LastRecord}
use Rattle.bsp_ret.specs.declared.model.LastRecord.TheVariants as last
use Rattle.bsp_ret.specs.declared.model.Record.{Record}
use Rattle.bsp_ret.specs.declared.model.Record.TheVariants as said

-- the sum of its forms, with one more record
abbrev pub paid_with : ℤ → Record → ℤ
paid_with sum (said.Related order) = sum
paid_with sum said.Amounts = sum
paid_with sum (said.Form form amount) = sum +ℤ amount
paid_with sum begins = pos 0

-- the most forms that a group has up to this record
abbrev pub forms_up_to : LastRecord → ℕ
forms_up_to (last.Form Cash) = 1
forms_up_to (last.Form Credit) = 2
forms_up_to (last.Form Exchange) = 3
forms_up_to _ = 0
