-- What is judged of a record.
use Rattle.std.specs.Prelude.{◌≤◌, ℤ, unsigned_abs, not}
use Rattle.bsp_hot_records.specs.declared.model.Heading.{Heading as JudgedHeading}
use Rattle.bsp_hot_records.specs.declared.model.Part.{Part as JudgedPart}
use Rattle.bsp_hot_records.specs.declared.model.Part.TheVariants as part_is
use Rattle.bsp_hot_records.specs.declared.model.Record.{Record as JudgedRecord}
use Rattle.bsp_hot_records.specs.declared.model.Record.TheVariants as record_is
use Rattle.bsp_hot_records.specs.Records.{Heading, Part, amounts, commission, commission_tax, related, cash, credit, exchange, Record, file_header, period_header, office_header, transaction_header, document, part, code_totals, office_totals, period_totals, file_totals, is_blank, number_in}

abbrev pub judged_part : Part → JudgedPart
judged_part (amounts a) = part_is.Amounts (not (is_blank a.taxes))
judged_part (commission c) = part_is.Commission c.amount
judged_part (commission_tax t) = part_is.CommissionTax t.amount
judged_part (related x) = part_is.Related (record { airline = x.airline; number = number_in x.number })
judged_part (cash paid) = part_is.Cash paid
judged_part (credit card) = part_is.Credit card.amount
judged_part (exchange ex) = part_is.Exchange

abbrev pub judged_heading : Heading → JudgedHeading
judged_heading h = record { airline = h.airline; period = h.period; currency = h.currency; form = h.form }

abbrev pub judged : Record → JudgedRecord
judged (file_header h) = record_is.FileHeader (judged_heading h)
judged (period_header period days) = record_is.PeriodHeader period
judged (office_header agent period currency) = record_is.OfficeHeader (record { agent = agent; period = period; currency = currency })
judged (transaction_header n airline) = record_is.TransactionHeader (record { transaction = n; airline = airline })
judged (document n agent c d) = record_is.Document (record { transaction = n; agent = agent; code = c; number = d.number })
judged (part n x) = record_is.PartOf (record { transaction = n; part = judged_part x })
judged (code_totals agent c totals) = record_is.CodeTotals (record { agent = agent; code = c; totals = totals })
judged (office_totals agent totals) = record_is.OfficeTotals (record { agent = agent; totals = totals })
judged (period_totals period offices totals) = record_is.PeriodTotals (record { period = period; offices = offices; totals = totals })
judged (file_totals airline records totals) = record_is.FileTotals (record { airline = airline; records = records; totals = totals })

-- an amount of eleven digits at most
abbrev pub IsSmallAmount : ℤ → Type 0
IsSmallAmount amount = unsigned_abs amount ≤ 99_999_999_999

abbrev pub IsSmallPart : JudgedPart → Type 0
IsSmallPart (part_is.Commission amount) = IsSmallAmount amount
IsSmallPart (part_is.CommissionTax amount) = IsSmallAmount amount
IsSmallPart (part_is.Cash amount) = IsSmallAmount amount
IsSmallPart (part_is.Credit amount) = IsSmallAmount amount
IsSmallPart _ = Unit {0}

abbrev pub IsSmallRecord : JudgedRecord → Type 0
IsSmallRecord (record_is.PartOf y) = IsSmallPart y.part
IsSmallRecord _ = Unit {0}
