-- The fault table, over the lines before a record and the record.
use Rattle.std.specs.Prelude.{nat_lt, ℕ, ℤ, pos, ◌+ℤ◌, ◌+◌, ◌==◌, Bool, true, false, ◌&&◌, not, List, [], ◌∷◌, ◌++◌, length, Option, Some, None, unwrap_or, filter, Result, Ok, Err, if◌then◌else◌}
use Rattle.std.specs.List.{count_by, last_or, list_any}
use Rattle.std.specs.Ordering.{int_eq}
use Rattle.bsp_fields.specs.FirstFault.{first_fault_or}
use Rattle.bsp_fields.specs.Zoned.{zoned_reading}
use Rattle.bsp_fields.specs.declared.fault.FieldFault.{FieldFault}
use Rattle.bsp_ret_records.specs.declared.codes.Profile.{Profile}
use Rattle.bsp_ret_records.specs.declared.codes.Profile.TheVariants.{P001, P002}
use Rattle.bsp_ret_records.specs.declared.codes.TransactionCode.{TransactionCode}
use Rattle.bsp_ret_records.specs.declared.codes.TransactionCode.TheVariants.{Tktt, Rfnd, Canx}
use Rattle.bsp_ret_records.specs.declared.codes.FormOfPayment.{FormOfPayment}
use Rattle.bsp_ret_records.specs.declared.codes.FormOfPayment.TheVariants.{Cash, Credit, Exchange}
use Rattle.bsp_ret.specs.declared.model.Record.{Record}
use Rattle.bsp_ret.specs.declared.model.Record.TheVariants as said
use Rattle.bsp_ret.specs.declared.model.LastRecord.{LastRecord}
use Rattle.bsp_ret.specs.declared.model.LastRecord.TheVariants as last
use Rattle.bsp_ret.specs.declared.model.Standing.{Standing}
use Rattle.bsp_ret.specs.declared.model.FaultCode.{FaultCode}
use Rattle.bsp_ret.specs.declared.model.FaultCode.TheVariants.{F01, F02, F03, F04, F05, F06, F07, F08, F09}
use Rattle.bsp_ret.specs.declared.model.RetFault.{RetFault}
use Rattle.bsp_fields.specs.Columns.{identifier, is_wide}
use Rattle.bsp_fields.specs.Fields.{spells}
use Rattle.bsp_ret_records.specs.Records.{transaction_number, record_count, transaction_count, total, is_header, is_production, header_fits, profile_of, code_of, sale_fits, related_order, related_fits, amounts_fit, form_of, form_fits, form_amount, trailer_fits}
use Rattle.bsp_ret.specs.Said.{record_in}

-- ---- kinds of records

abbrev pub is_sale : List ℕ → Bool
is_sale line = identifier line == 50

abbrev pub is_related : List ℕ → Bool
is_related line = identifier line == 51

-- ---- what stands before a record

-- what a record adds to the sum of the forms
abbrev pub paid : List ℕ → ℤ
paid line = if identifier line == 56 then form_amount line else pos 0

abbrev pub total_paid : List (List ℕ) → ℤ
total_paid [] = pos 0
total_paid (line ∷ lines) = paid line +ℤ total_paid lines

-- the code of a record 2, or else this one
abbrev pub code_or : TransactionCode → Option (List ℕ) → TransactionCode
code_or code None = code
code_or code (Some line) = unwrap_or (code_of line) code

-- the profile of a header, or else this one
abbrev pub profile_or : Profile → Option (List ℕ) → Profile
profile_or profile None = profile
profile_or profile (Some line) = unwrap_or (profile_of line) profile

-- the lines behind the last record 2, all where there is none
abbrev pub behind_sale : List (List ℕ) → List (List ℕ)
behind_sale [] = []
behind_sale (line ∷ lines) =
    if list_any is_sale lines then behind_sale lines else (if is_sale line then lines else line ∷ lines)

-- the kind of a record
abbrev pub kind : Record → LastRecord
kind (said.Header profile) = last.Header
kind (said.Sale code) = last.Sale
kind (said.Related order) = last.Related
kind said.Amounts = last.Amounts
kind (said.Form form amount) = last.Form form
kind said.Trailer = last.Trailer

abbrev pub is_headed : LastRecord → Bool
is_headed last.Header = true
is_headed _ = false

abbrev pub kind_or_start : Option (List ℕ) → LastRecord
kind_or_start None = last.Start
kind_or_start (Some line) = kind (record_in line)

-- a record of no other kind is a header
abbrev pub is_head : List ℕ → Bool
is_head line = is_headed (kind (record_in line))

-- by what a record 3 is in order that is alone
abbrev pub only_order : List (List ℕ) → Option ℕ
only_order [] = None
only_order (line ∷ []) = Some (related_order line)
only_order (line ∷ next ∷ lines) = None

-- the state behind the lines: the code is that of the last record 2, TKTT where there is none, and the profile that of the last header, 001 where there is none
abbrev pub standing : List (List ℕ) → Standing
standing before = record {
  records = length before;
  transactions = count_by is_sale before;
  sum = total_paid before;
  code = code_or Tktt (last_or None (filter is_sale before));
  profile = profile_or P001 (last_or None (filter is_head before));
  related = list_any is_related (behind_sale before);
  only = only_order (filter is_related (behind_sale before));
  last = kind_or_start (last_or None before);
}

-- ---- what may stand where, by the last record, its group's code, the file's profile, whether the group has a record 3, and by what it is in order where it is alone

abbrev pub has_ended : LastRecord → Bool
has_ended last.Trailer = true
has_ended _ = false

abbrev pub is_start : LastRecord → Bool
is_start last.Start = true
is_start _ = false

-- a group is complete, or there is none: a CANX is at once, another from its first form on, but a TKTT with record 3 only with EX
abbrev pub is_complete : LastRecord → TransactionCode → Bool → Bool
is_complete last.Header code related = true
is_complete last.Sale Canx related = true
is_complete (last.Form Cash) Tktt related = not related
is_complete (last.Form Credit) Tktt related = not related
is_complete (last.Form form) code related = true
is_complete _ code related = false

-- a second record 3 stands in a TKTT of profile 002
abbrev pub takes_related : LastRecord → TransactionCode → Profile → Option ℕ → Bool
takes_related last.Sale Tktt profile only = true
takes_related last.Sale Rfnd profile only = true
takes_related last.Related Tktt P002 (Some order) = true
takes_related _ code profile only = false

-- a second record 3 has a greater airline and number
abbrev pub comes_behind : Option ℕ → ℕ → Bool
comes_behind None order = true
comes_behind (Some first) order = nat_lt first order

abbrev pub takes_amounts : LastRecord → TransactionCode → Bool
takes_amounts last.Sale Tktt = true
takes_amounts last.Related code = true
takes_amounts _ code = false

-- EX stands only in a TKTT with record 3
abbrev pub has_form : TransactionCode → Bool → FormOfPayment → Bool
has_form code related Cash = true
has_form code related Credit = true
has_form Tktt related Exchange = related
has_form Rfnd related Exchange = false
has_form Canx related Exchange = false

-- forms are different and in the order CA, CC, EX
abbrev pub is_later : FormOfPayment → FormOfPayment → Bool
is_later Cash Credit = true
is_later Cash Exchange = true
is_later Credit Exchange = true
is_later _ _ = false

-- a known form, or one that is none of the three: this is not allowed only where no form is
abbrev pub takes_form : LastRecord → TransactionCode → Bool → Option FormOfPayment → Bool
takes_form last.Amounts code related (Some form) = has_form code related form
takes_form last.Amounts code related None = true
takes_form (last.Form before) code related (Some form) = is_later before form && has_form code related form
takes_form (last.Form Cash) code related None = true
takes_form (last.Form Credit) code related None = has_form code related Exchange
takes_form _ code related form = false

-- the text is a total, of that value
abbrev pub has_value : ℤ → Result ℤ FieldFault → Bool
has_value v (Ok w) = int_eq w v
has_value v (Err fault) = false

abbrev pub has_counts : Standing → List ℕ → Bool
has_counts at line = spells (at.records + 1) (record_count line) && spells at.transactions (transaction_count line)

abbrev pub has_sum : Standing → List ℕ → Bool
has_sum at line = has_value at.sum (zoned_reading 15 (total line))

-- ---- the tables of the records, each behind lines that stand so

abbrev pub header_table : List ℕ → List (Bool × FaultCode)
header_table line = (not (is_header line), F02) ∷ (not (is_production line), F04) ∷ (not (header_fits line), F05) ∷ []

-- of records 2, 3, 5 and 8: whether the record may come next, the number of its transaction, and whether its fields fit
abbrev pub transaction_table : Bool → ℕ → Bool → List ℕ → List (Bool × FaultCode)
transaction_table allowed number fits line = (not (allowed && spells number (transaction_number line)), F03) ∷ (not fits, F05) ∷ []

-- of a trailer, and of a record that is none of these
abbrev pub trailer_table : Standing → List ℕ → List (Bool × FaultCode)
trailer_table at line =
    (not ((identifier line == 90) && is_complete at.last at.code at.related), F03) ∷ (not (trailer_fits line), F05)
    ∷ (not (has_counts at line), F06) ∷ (not (has_sum at line), F07) ∷ []

abbrev pub later_table : Standing → List ℕ → List (Bool × FaultCode)
later_table at line =
    if identifier line == 50
    then transaction_table (is_complete at.last at.code at.related) (at.transactions + 1) (sale_fits line) line
    else (if identifier line == 51
    then transaction_table (takes_related at.last at.code at.profile at.only) at.transactions (related_fits line && comes_behind at.only (related_order line)) line
    else (if identifier line == 53
    then transaction_table (takes_amounts at.last at.code) at.transactions (amounts_fit line) line
    else (if identifier line == 56
    then transaction_table (takes_form at.last at.code at.related (form_of line)) at.transactions (form_fits line) line
    else trailer_table at line)))

abbrev pub record_table : Standing → List ℕ → List (Bool × FaultCode)
record_table at line = if is_start at.last then header_table line else later_table at line

-- the first row that applies to a line behind the lines that stand so
unfoldable pub row_fault : Standing → List ℕ → Result (Unit {0}) FaultCode
row_fault at line = first_fault_or ((has_ended at.last, F09) ∷ (not (is_wide line), F01) ∷ record_table at line) tt

-- ---- the first record at fault

abbrev pub or_later : Result (Unit {0}) FaultCode → ℕ → Option RetFault → Option RetFault
or_later (Ok none) at later = later
or_later (Err code) at later = Some (record { code = code; at = at })

abbrev pub fault_from : List (List ℕ) → List (List ℕ) → Option RetFault
fault_from before [] =
    if has_ended (standing before).last then None else Some (record { code = F08; at = length before + 1 })
fault_from before (line ∷ rest) =
    or_later (row_fault (standing before) line) (length before + 1) (fault_from (before ++ line ∷ []) rest)

-- the first record to which a row applies, with that row
abbrev pub first_fault : List (List ℕ) → Option RetFault
first_fault lines = fault_from [] lines
