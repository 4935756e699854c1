-- What a record says, by its identifier.
use Rattle.std.specs.Prelude.{ℕ, ◌==◌, List, unwrap_or, if◌then◌else◌}
use Rattle.bsp_fields.specs.Columns.{identifier}
use Rattle.bsp_ret_records.specs.declared.codes.TransactionCode.TheVariants.{Tktt}
use Rattle.bsp_ret_records.specs.declared.codes.FormOfPayment.TheVariants.{Cash}
use Rattle.bsp_ret_records.specs.declared.codes.Profile.TheVariants.{P001}
use Rattle.bsp_ret_records.specs.Records.{profile_of, code_of, related_order, form_of, form_amount}
use Rattle.bsp_ret.specs.declared.model.Record.{Record}
use Rattle.bsp_ret.specs.declared.model.Record.TheVariants as said

unfoldable pub record_in : List ℕ → Record
record_in line =
    if identifier line == 50 then said.Sale (unwrap_or (code_of line) Tktt)
    else (if identifier line == 51 then said.Related (related_order line)
    else (if identifier line == 53 then said.Amounts
    else (if identifier line == 56 then said.Form (unwrap_or (form_of line) Cash) (form_amount line)
    else (if identifier line == 90 then said.Trailer else said.Header (unwrap_or (profile_of line) P001)))))
