-- The fields of each record by their columns, and when they fit.
use Rattle.std.specs.Prelude.{◌≡◌, ℕ, ℤ, pos, ◌==◌, Bool, true, false, ◌&&◌, List, Option, Some, None, is_some, length, if◌then◌else◌, codes}
use Rattle.std.specs.Result.{result_unwrap_or}
use Rattle.std.specs.List.{list_all}
use Rattle.std.specs.Str.{all_ascii_digits, bytes_eq}
use Rattle.bsp_fields.specs.Decimal.{number_of}
use Rattle.bsp_fields.specs.Zoned.{zoned_reading}
use Rattle.bsp_fields.specs.Columns.{columns, identifier, is_letter, is_letter_or_digit, is_space}
use Rattle.bsp_fields.specs.Fields.{spells_at_most, is_amount, is_total, is_record_day}
use Rattle.bsp_fields.specs.Taxes.{tax_places, taxes_fit}
use Rattle.bsp_ret_records.specs.declared.codes.Profile.{Profile}
use Rattle.bsp_ret_records.specs.declared.codes.Profile.TheVariants.{P001, P002}
use Rattle.bsp_ret_records.specs.declared.codes.TransactionCode.{TransactionCode}
use Rattle.bsp_ret_records.specs.declared.codes.TransactionCode.TheVariants.{Tktt, Rfnd, Canx}
use Rattle.bsp_ret_records.specs.declared.codes.FormOfPayment.{FormOfPayment}
use Rattle.bsp_ret_records.specs.declared.codes.FormOfPayment.TheVariants.{Cash, Credit, Exchange}

-- a record of its width, whose fields fit
abbrev pub IsFit : (List ℕ → Bool) → List ℕ → Type 0
IsFit fits line = (length line ≡ 136) × (fits line ≡ true)

-- of records 2, 3, 5 and 8
abbrev pub transaction_number : List ℕ → List ℕ
transaction_number line = columns 2 7 line

-- ---- record 1, the header

unfoldable pub profile_of : List ℕ → Option Profile
profile_of line =
    if bytes_eq (columns 28 30 line) (codes "001") then Some P001
    else (if bytes_eq (columns 28 30 line) (codes "002") then Some P002 else None)

unfoldable pub is_header : List ℕ → Bool
is_header line = (identifier line == 49) && is_some (profile_of line)

unfoldable pub is_production : List ℕ → Bool
is_production line = bytes_eq (columns 24 27 line) (codes "PROD")

abbrev pub system_id : List ℕ → List ℕ
system_id line = columns 2 5 line

abbrev pub file_date : List ℕ → List ℕ
file_date line = columns 6 11 line

-- hours and minutes
abbrev pub file_time : List ℕ → List ℕ
file_time line = columns 12 15 line

abbrev pub country : List ℕ → List ℕ
country line = columns 16 17 line

abbrev pub file_number : List ℕ → List ℕ
file_number line = columns 18 23 line

-- system id, date, hours, minutes, country, file number
unfoldable pub header_fits : List ℕ → Bool
header_fits line =
    list_all is_letter_or_digit (system_id line) && is_record_day (file_date line)
    && spells_at_most 23 (columns 12 13 line) && spells_at_most 59 (columns 14 15 line)
    && list_all is_letter (country line) && all_ascii_digits (file_number line)
    && list_all is_space (columns 31 136 line)

-- ---- a document in fourteen characters

abbrev pub airline_part : List ℕ → List ℕ
airline_part text = columns 1 3 text

abbrev pub number_part : List ℕ → List ℕ
number_part text = columns 4 13 text

abbrev pub check_digit_part : List ℕ → List ℕ
check_digit_part text = columns 14 14 text

-- ---- record 2, basic sale data

abbrev pub transaction_code : List ℕ → List ℕ
transaction_code line = columns 8 11 line

-- the agent's eight digits and the document's fourteen
abbrev pub agent_and_document : List ℕ → List ℕ
agent_and_document line = columns 12 33 line

abbrev pub agent : List ℕ → List ℕ
agent line = columns 1 8 (agent_and_document line)

abbrev pub document : List ℕ → List ℕ
document line = columns 9 22 (agent_and_document line)

abbrev pub issued : List ℕ → List ℕ
issued line = columns 34 39 line

abbrev pub passenger : List ℕ → List ℕ
passenger line = columns 40 88 line

unfoldable pub code_of : List ℕ → Option TransactionCode
code_of line =
    if bytes_eq (transaction_code line) (codes "TKTT") then Some Tktt
    else (if bytes_eq (transaction_code line) (codes "RFND") then Some Rfnd
    else (if bytes_eq (transaction_code line) (codes "CANX") then Some Canx else None))

unfoldable pub sale_fits : List ℕ → Bool
sale_fits line =
    is_some (code_of line) && all_ascii_digits (agent_and_document line) && is_record_day (issued line)
    && list_all is_space (columns 89 136 line)

-- ---- record 3, related document

abbrev pub related_document : List ℕ → List ℕ
related_document line = columns 8 21 line

-- the airline and the number of a document in fourteen digits, by which documents are in order: digits of one width are in order by bytes as the numbers that they write
abbrev pub order_of : List ℕ → ℕ
order_of text = number_of (columns 1 13 text)

abbrev pub related_order : List ℕ → ℕ
related_order line = order_of (related_document line)

unfoldable pub related_fits : List ℕ → Bool
related_fits line = all_ascii_digits (related_document line) && list_all is_space (columns 22 136 line)

-- ---- record 5, amounts; its tax places are bsp_fields'

abbrev pub fare : List ℕ → List ℕ
fare line = columns 8 18 line

abbrev pub rate : List ℕ → List ℕ
rate line = columns 97 101 line

abbrev pub commission : List ℕ → List ℕ
commission line = columns 102 112 line

unfoldable pub amounts_fit : List ℕ → Bool
amounts_fit line =
    is_amount (fare line) && taxes_fit 0 (tax_places line) && spells_at_most 10000 (rate line)
    && is_amount (commission line) && list_all is_space (columns 113 136 line)

-- ---- record 8, form of payment

abbrev pub payment_amount : List ℕ → List ℕ
payment_amount line = columns 10 20 line

abbrev pub vendor : List ℕ → List ℕ
vendor line = columns 21 22 line

unfoldable pub form_of : List ℕ → Option FormOfPayment
form_of line =
    if bytes_eq (columns 8 9 line) (codes "CA") then Some Cash
    else (if bytes_eq (columns 8 9 line) (codes "CC") then Some Credit
    else (if bytes_eq (columns 8 9 line) (codes "EX") then Some Exchange else None))

-- a card vendor stands with CC
abbrev pub vendor_fits : Option FormOfPayment → List ℕ → Bool
vendor_fits None text = false
vendor_fits (Some Cash) text = list_all is_space text
vendor_fits (Some Credit) text = list_all is_letter_or_digit text
vendor_fits (Some Exchange) text = list_all is_space text

unfoldable pub form_fits : List ℕ → Bool
form_fits line =
    vendor_fits (form_of line) (vendor line) && is_amount (payment_amount line) && list_all is_space (columns 23 136 line)

-- the amount of a form, 0 where there is none
unfoldable pub form_amount : List ℕ → ℤ
form_amount line = result_unwrap_or (zoned_reading 11 (payment_amount line)) (pos 0)

-- ---- record Z, the trailer

abbrev pub record_count : List ℕ → List ℕ
record_count line = columns 2 8 line

abbrev pub transaction_count : List ℕ → List ℕ
transaction_count line = columns 9 15 line

abbrev pub total : List ℕ → List ℕ
total line = columns 16 30 line

unfoldable pub trailer_fits : List ℕ → Bool
trailer_fits line =
    all_ascii_digits (record_count line) && all_ascii_digits (transaction_count line) && is_total (total line)
    && list_all is_space (columns 31 136 line)
