-- What a reason says of a record of a RET file.
use Rattle.std.specs.Prelude.{◌≡◌, ◌≢◌, ℕ, ◌+◌, ◌==◌, ◌&&◌, ◌||◌, Bool, true, false, not, List, [], length, Ok, Some, if◌then◌else◌}
use Rattle.bsp_fields.specs.Decimal.{number_of}
use Rattle.bsp_fields.specs.Zoned.{zoned_reading}
use Rattle.bsp_fields.specs.Columns.{identifier, is_wide}
use Rattle.bsp_fields.specs.Fields.{spells}
use Rattle.bsp_ret_records.specs.Records.{transaction_number, record_count, transaction_count, total, sale_fits, related_fits, amounts_fit, form_of, form_fits, trailer_fits}
use Rattle.bsp_ret.specs.declared.model.FaultCode.{FaultCode}
use Rattle.bsp_ret.specs.declared.model.FaultCode.TheVariants.{F01, F02, F03, F04, F05, F06, F07, F08, F09, F10}
use Rattle.bsp_ret.specs.declared.model.Standing.{Standing}
use Rattle.bsp_ret.specs.Table.{is_start, has_counts, has_sum}
use Rattle.bsp_explain.specs.declared.field.Field.{Field}
use Rattle.bsp_explain.specs.declared.reason.Reason.{Reason}
use Rattle.bsp_explain.specs.declared.reason.Reason.TheVariants as reason
use Rattle.bsp_explain.specs.Fields.{first_unfit, IsAtFault}
use Rattle.bsp_explain.specs.RetFields.{is_whole_header, header_fields, sale_fields, related_fields, amounts_fields, payment_fields, trailer_fields}
use Rattle.bsp_explain.specs.Reasons.{SaysOfWidth}

-- a record's own test: that of a header, or of another record by its identifier
abbrev pub record_fits : Bool → List ℕ → Bool
record_fits is_first line =
    if is_first then is_whole_header line
    else (if identifier line == 50 then sale_fits line
    else (if identifier line == 51 then related_fits line
    else (if identifier line == 53 then amounts_fit line
    else (if identifier line == 56 then form_fits line
    else (if identifier line == 90 then trailer_fits line else true)))))

abbrev pub record_fields : Bool → List ℕ → List Field
record_fields is_first line =
    if is_first then header_fields
    else (if identifier line == 50 then sale_fields
    else (if identifier line == 51 then related_fields
    else (if identifier line == 53 then amounts_fields line
    else (if identifier line == 56 then payment_fields line
    else (if identifier line == 90 then trailer_fields else [])))))

-- the number of its transaction that a record has to have after so many
abbrev pub wanted_number : List ℕ → ℕ → ℕ
wanted_number line transactions = if identifier line == 50 then transactions + 1 else transactions

-- a record 2, 3, 5 or 8
abbrev pub has_number : List ℕ → Bool
has_number line = (identifier line == 50) || (identifier line == 51) || (identifier line == 53) || (identifier line == 56)

-- it has the next number, where it has to have one
abbrev pub has_next_number : ℕ → List ℕ → Bool
has_next_number transactions line = not (has_number line) || spells (wanted_number line transactions) (transaction_number line)

-- what a reason says of record number n, after the records of this state
abbrev pub Says : ℕ → Standing → List ℕ → Reason → Type 0
Says n at line (reason.Width width cause) = SaysOfWidth line (reason.Width width cause)
Says n at line (reason.Character column c cause) = SaysOfWidth line (reason.Character column c cause)
Says n at line (reason.Unfit f) = IsAtFault line f × (first_unfit line (record_fields (is_start at.last) line) ≡ Some f)
Says n at line (reason.Identifier c) = (identifier line ≡ c) × (has_number line ≡ false) × (c ≢ 90)
Says n at line (reason.TransactionNumber wanted) =
    (wanted ≡ wanted_number line at.transactions) × (has_next_number at.transactions line ≡ false)
Says n at line (reason.Place c before) =
    (identifier line ≡ c) × (has_next_number at.transactions line ≡ true) × (c ≢ 56) × (before ≡ at)
Says n at line reason.RelatedOrder = (identifier line ≡ 51) × (related_fits line ≡ true)
Says n at line (reason.Payment form before) =
    (identifier line ≡ 56) × (has_next_number at.transactions line ≡ true) × (form ≡ form_of line) × (before ≡ at)
Says n at line (reason.RecordCount stated counted) =
    (stated ≡ number_of (record_count line)) × (counted ≡ n) × (stated ≢ counted)
Says n at line (reason.TransactionCount stated counted) =
    (stated ≡ number_of (transaction_count line)) × (counted ≡ at.transactions) × (stated ≢ counted)
Says n at line (reason.Sum stated summed) =
    (zoned_reading 15 (total line) ≡ Ok stated.units) × (summed.units ≡ at.sum) × (stated.units ≢ summed.units)
Says n at line (reason.NoTrailer records before) = (records ≡ n) × (before ≡ at)
Says n at line (reason.AfterTrailer width) = width ≡ length line
Says n at line reason.NotFound = Unit {0}

-- the reason is one of that row of the fault table
abbrev pub is_reason_of : FaultCode → Reason → Bool
is_reason_of F01 (reason.Width width cause) = true
is_reason_of F01 (reason.Character column c cause) = true
is_reason_of F02 (reason.Unfit f) = true
is_reason_of F03 (reason.Identifier c) = true
is_reason_of F03 (reason.TransactionNumber wanted) = true
is_reason_of F03 (reason.Place c before) = true
is_reason_of F03 (reason.Payment form before) = true
is_reason_of F04 (reason.Unfit f) = true
is_reason_of F05 (reason.Unfit f) = true
is_reason_of F05 reason.RelatedOrder = true
is_reason_of F06 (reason.RecordCount stated counted) = true
is_reason_of F06 (reason.TransactionCount stated counted) = true
is_reason_of F07 (reason.Sum stated summed) = true
is_reason_of F08 (reason.NoTrailer records before) = true
is_reason_of F09 (reason.AfterTrailer width) = true
is_reason_of _ _ = false

-- a record 3, which may be the second of its group
abbrev pub may_be_second : Bool → List ℕ → Bool
may_be_second is_first line = not is_first && (identifier line == 51)

-- after records of this state a line is not at fault in that row, whatever its place
abbrev pub is_without : FaultCode → Standing → List ℕ → Bool
is_without F01 at line = is_wide line
is_without F02 at line = not (is_wide line) || record_fits (is_start at.last) line
is_without F03 at line = not (is_wide line)
is_without F04 at line = not (is_wide line) || record_fits (is_start at.last) line
is_without F05 at line = not (is_wide line) || (record_fits (is_start at.last) line && not (may_be_second (is_start at.last) line))
is_without F06 at line = not (is_wide line) || not (trailer_fits line) || has_counts at line
is_without F07 at line = not (is_wide line) || not (trailer_fits line) || has_sum at line
is_without F08 at line = true
is_without F09 at line = false
is_without F10 at line = true
