-- The records of a HOT file, by their columns. Columns are counted from 1, both ends included.
use Rattle.std.specs.Prelude.{◌≡◌, ℕ, ◌+◌, ℤ, pos, suc, Bool, true, ◌&&◌, ◌||◌, List, [], ◌∷◌, Option, Some, None, is_some, unwrap_or, if◌then◌else◌, codes}
use Rattle.std.specs.Result.{result_unwrap_or}
use Rattle.std.specs.List.{list_all}
use Rattle.std.specs.Str.{all_ascii_digits, bytes_eq}
use Rattle.bsp_fields.specs.Decimal.{number_of}
use Rattle.bsp_fields.specs.Zoned.{zoned_reading}
use Rattle.bsp_fields.specs.Columns.{columns, is_letter, is_letter_or_digit, is_space, is_wide}
use Rattle.bsp_fields.specs.Fields.{spells, spells_at_most, is_amount, is_total, is_record_day}
use Rattle.bsp_fields.specs.Taxes.{tax_places, taxes_fit}
use Rattle.bsp_hot_records.specs.declared.code.DocumentCode.{DocumentCode}
use Rattle.bsp_hot_records.specs.declared.code.DocumentCode.TheVariants.{Tktt, Rfnd, Canx, Adma, Acma}
use Rattle.bsp_hot_records.specs.declared.form.FileForm.{FileForm}
use Rattle.bsp_hot_records.specs.declared.form.FileForm.TheVariants.{One, Two}
use Rattle.bsp_hot_records.specs.declared.totals.Totals.{Totals}
use Rattle.bsp_hot_records.specs.declared.name.RecordName.{RecordName}
use Rattle.bsp_hot_records.specs.declared.name.RecordName.TheVariants.{Bfh01, Bch02, Boh03, Bkt06, Bks24, Bks30, Bks39, Bks42, Bks45, Bkp84, Bot93, Bot94, Bct95, Bft99}

-- ---- what the records say; a text is kept as it stands

-- BFH01: the airline, the period, its remittance day, the currency and the form of the file
pub record Heading : Type 0 where
  pub airline : ℕ
  pub period : ℕ
  pub remittance : List ℕ
  pub currency : List ℕ
  pub form : FileForm

-- BCH02 but for its period: the first, the last and the remittance day
pub record Days : Type 0 where
  pub first : List ℕ
  pub last : List ℕ
  pub remittance : List ℕ

-- BKS24 but for its transaction, code and agent: a document, or a memo with its reason as name
pub record Document : Type 0 where
  pub issued : List ℕ
  pub number : ℕ
  pub check_digit : List ℕ
  pub name : List ℕ

-- BKS30: the fare and the six tax places
pub record Amounts : Type 0 where
  pub fare : ℤ
  pub taxes : List ℕ

-- BKS39: the rate in hundredths of a percent, and the commission
pub record Commission : Type 0 where
  pub rate : ℕ
  pub amount : ℤ

-- BKS42: the tax taken on the commission, in hundredths of a percent, and its amount
pub record CommissionTax : Type 0 where
  pub hundredths : ℕ
  pub amount : ℤ

-- BKS45
pub record Related : Type 0 where
  pub airline : ℕ
  pub number : List ℕ
  pub check_digit : List ℕ

-- BKP84 with the form CC
pub record CardPayment : Type 0 where
  pub amount : ℤ
  pub vendor : List ℕ

-- a record behind BKS24, but for its transaction
pub data Part : Type 0 where
  amounts : Amounts → Part
  commission : Commission → Part
  commission_tax : CommissionTax → Part
  related : Related → Part
  cash : ℤ → Part
  credit : CardPayment → Part
  exchange : ℤ → Part

pub data Record : Type 0 where
  file_header : Heading → Record
  -- BCH02: the period
  period_header : ℕ → Days → Record
  -- BOH03: agent, period, currency
  office_header : ℕ → ℕ → List ℕ → Record
  -- BKT06: transaction and airline
  transaction_header : ℕ → ℕ → Record
  -- BKS24: transaction, agent, code
  document : ℕ → ℕ → DocumentCode → Document → Record
  -- BKS30, BKS39, BKS42, BKS45 or BKP84: transaction
  part : ℕ → Part → Record
  -- BOT93: agent and code
  code_totals : ℕ → DocumentCode → Totals → Record
  -- BOT94: agent
  office_totals : ℕ → Totals → Record
  -- BCT95: period, and the number of offices
  period_totals : ℕ → ℕ → Totals → Record
  -- BFT99: airline, and the number of records
  file_totals : ℕ → ℕ → Totals → Record

-- ---- names

-- a name's letters stand in columns 1 to 3 and its digits in columns 12 and 13
abbrev pub letters : RecordName → List ℕ
letters Bfh01 = codes "BFH"
letters Bch02 = codes "BCH"
letters Boh03 = codes "BOH"
letters Bkt06 = codes "BKT"
letters Bks24 = codes "BKS"
letters Bks30 = codes "BKS"
letters Bks39 = codes "BKS"
letters Bks42 = codes "BKS"
letters Bks45 = codes "BKS"
letters Bkp84 = codes "BKP"
letters Bot93 = codes "BOT"
letters Bot94 = codes "BOT"
letters Bct95 = codes "BCT"
letters Bft99 = codes "BFT"

abbrev pub name_digits : RecordName → List ℕ
name_digits Bfh01 = codes "01"
name_digits Bch02 = codes "02"
name_digits Boh03 = codes "03"
name_digits Bkt06 = codes "06"
name_digits Bks24 = codes "24"
name_digits Bks30 = codes "30"
name_digits Bks39 = codes "39"
name_digits Bks42 = codes "42"
name_digits Bks45 = codes "45"
name_digits Bkp84 = codes "84"
name_digits Bot93 = codes "93"
name_digits Bot94 = codes "94"
name_digits Bct95 = codes "95"
name_digits Bft99 = codes "99"

-- the name that has these digits
unfoldable pub name_of : List ℕ → Option RecordName
name_of digits =
    if bytes_eq digits (codes "01") then Some Bfh01
    else (if bytes_eq digits (codes "02") then Some Bch02
    else (if bytes_eq digits (codes "03") then Some Boh03
    else (if bytes_eq digits (codes "06") then Some Bkt06
    else (if bytes_eq digits (codes "24") then Some Bks24
    else (if bytes_eq digits (codes "30") then Some Bks30
    else (if bytes_eq digits (codes "39") then Some Bks39
    else (if bytes_eq digits (codes "42") then Some Bks42
    else (if bytes_eq digits (codes "45") then Some Bks45
    else (if bytes_eq digits (codes "84") then Some Bkp84
    else (if bytes_eq digits (codes "93") then Some Bot93
    else (if bytes_eq digits (codes "94") then Some Bot94
    else (if bytes_eq digits (codes "95") then Some Bct95
    else (if bytes_eq digits (codes "99") then Some Bft99 else None)))))))))))))

-- ---- kinds of fields

abbrev pub is_blank : List ℕ → Bool
is_blank text = list_all is_space text

-- a code's letters, and the code that has them
abbrev pub code_text : DocumentCode → List ℕ
code_text Tktt = codes "TKTT"
code_text Rfnd = codes "RFND"
code_text Canx = codes "CANX"
code_text Adma = codes "ADMA"
code_text Acma = codes "ACMA"

unfoldable pub code_of : List ℕ → Option DocumentCode
code_of text =
    if bytes_eq text (codes "TKTT") then Some Tktt
    else (if bytes_eq text (codes "RFND") then Some Rfnd
    else (if bytes_eq text (codes "CANX") then Some Canx
    else (if bytes_eq text (codes "ADMA") then Some Adma
    else (if bytes_eq text (codes "ACMA") then Some Acma else None))))

-- what BFH01 has of a file of this form, and the form that has it
abbrev pub file_form_text : FileForm → List ℕ
file_form_text One = codes "PROD001"
file_form_text Two = codes "PROD002"

unfoldable pub file_form_of : List ℕ → Option FileForm
file_form_of text =
    if bytes_eq text (codes "PROD001") then Some One
    else (if bytes_eq text (codes "PROD002") then Some Two else None)

-- a card vendor stands with CC
unfoldable pub form_fits : List ℕ → List ℕ → Bool
form_fits form vendor =
    if bytes_eq form (codes "CC") then list_all is_letter_or_digit vendor
    else (bytes_eq form (codes "CA") || bytes_eq form (codes "EX")) && is_blank vendor

-- eight digits of documents and four totals: cash, credit, commission and net
unfoldable pub totals_fit : List ℕ → Bool
totals_fit text =
    all_ascii_digits (columns 1 8 text) && is_total (columns 9 23 text) && is_total (columns 24 38 text)
    && is_total (columns 39 53 text) && is_total (columns 54 68 text)

-- from this column on, behind the net, form 2 has one total more, the tax on commission; the rest is spaces
unfoldable pub rest_fits : FileForm → ℕ → List ℕ → Bool
rest_fits One first line = is_blank (columns first 136 line)
rest_fits Two first line = is_total (columns first (first + 14) line) && is_blank (columns (first + 15) 136 line)

-- the six tax places stand as in a RET file's record 5, 14 columns further on
unfoldable pub tax_places_fit : List ℕ → Bool
tax_places_fit line = taxes_fit 0 (tax_places (columns 15 136 line))

-- ---- the fields of each record of a file of the form, from column 14 on

unfoldable pub fields_fit : FileForm → RecordName → List ℕ → Bool
fields_fit form Bfh01 line =
    all_ascii_digits (columns 14 16 line) && all_ascii_digits (columns 17 21 line) && is_record_day (columns 22 27 line)
    && list_all is_letter (columns 28 30 line) && is_some (file_form_of (columns 31 37 line))
    && is_blank (columns 38 136 line)
fields_fit form Bch02 line =
    all_ascii_digits (columns 14 18 line) && is_record_day (columns 19 24 line) && is_record_day (columns 25 30 line)
    && is_record_day (columns 31 36 line) && is_blank (columns 37 136 line)
fields_fit form Boh03 line =
    all_ascii_digits (columns 14 21 line) && all_ascii_digits (columns 22 26 line) && list_all is_letter (columns 27 29 line)
    && is_blank (columns 30 136 line)
fields_fit form Bkt06 line =
    all_ascii_digits (columns 14 21 line) && all_ascii_digits (columns 22 24 line) && is_blank (columns 25 136 line)
fields_fit form Bks24 line =
    all_ascii_digits (columns 14 21 line) && is_record_day (columns 22 27 line) && all_ascii_digits (columns 28 37 line)
    && all_ascii_digits (columns 38 38 line) && is_some (code_of (columns 39 42 line))
    && all_ascii_digits (columns 43 50 line) && is_blank (columns 100 136 line)
fields_fit form Bks30 line =
    all_ascii_digits (columns 14 21 line) && is_amount (columns 22 32 line) && tax_places_fit line
    && is_blank (columns 111 136 line)
fields_fit form Bks39 line =
    all_ascii_digits (columns 14 21 line) && spells_at_most 10000 (columns 22 26 line) && is_amount (columns 27 37 line)
    && is_blank (columns 38 136 line)
fields_fit form Bks42 line =
    all_ascii_digits (columns 14 21 line) && spells_at_most 10000 (columns 22 26 line) && is_amount (columns 27 37 line)
    && is_blank (columns 38 136 line)
fields_fit form Bks45 line =
    all_ascii_digits (columns 14 21 line) && all_ascii_digits (columns 22 24 line) && all_ascii_digits (columns 25 34 line)
    && all_ascii_digits (columns 35 35 line) && is_blank (columns 36 136 line)
fields_fit form Bkp84 line =
    all_ascii_digits (columns 14 21 line) && form_fits (columns 22 23 line) (columns 35 36 line)
    && is_amount (columns 24 34 line) && is_blank (columns 37 136 line)
fields_fit form Bot93 line =
    all_ascii_digits (columns 14 21 line) && is_some (code_of (columns 22 25 line)) && totals_fit (columns 26 93 line)
    && rest_fits form 94 line
fields_fit form Bot94 line =
    all_ascii_digits (columns 14 21 line) && totals_fit (columns 22 89 line) && rest_fits form 90 line
fields_fit form Bct95 line =
    all_ascii_digits (columns 14 18 line) && all_ascii_digits (columns 19 26 line) && totals_fit (columns 27 94 line)
    && rest_fits form 95 line
fields_fit form Bft99 line =
    all_ascii_digits (columns 14 16 line) && all_ascii_digits (columns 17 24 line) && totals_fit (columns 25 92 line)
    && rest_fits form 93 line

-- ---- what a record says, where its fields fit

-- the number of digits, the value of an amount and of a total; 0 where there is none
unfoldable pub number_in : List ℕ → ℕ
number_in text = if all_ascii_digits text then number_of text else 0

unfoldable pub amount_of : List ℕ → ℤ
amount_of text = result_unwrap_or (zoned_reading 11 text) (pos 0)

unfoldable pub total_of : List ℕ → ℤ
total_of text = result_unwrap_or (zoned_reading 15 text) (pos 0)

abbrev pub code_in : List ℕ → DocumentCode
code_in text = unwrap_or (code_of text) Tktt

abbrev pub file_form_in : List ℕ → FileForm
file_form_in text = unwrap_or (file_form_of text) One

-- the tax on commission from this column on, which is 0 in form 1
unfoldable pub tax_in : FileForm → ℕ → List ℕ → ℤ
tax_in One first line = pos 0
tax_in Two first line = total_of (columns first (first + 14) line)

-- the totals, with that tax
abbrev pub totals_of : List ℕ → ℤ → Totals
totals_of text tax = record {
  sums = record {
    documents = number_in (columns 1 8 text);
    cash = total_of (columns 9 23 text);
    credit = total_of (columns 24 38 text);
    commission = total_of (columns 39 53 text);
    tax = tax;
  };
  net = total_of (columns 54 68 text);
}

abbrev pub payment_of : List ℕ → Part
payment_of line =
    if bytes_eq (columns 22 23 line) (codes "CA") then cash (amount_of (columns 24 34 line))
    else (if bytes_eq (columns 22 23 line) (codes "CC")
    then credit (record { amount = amount_of (columns 24 34 line); vendor = columns 35 36 line })
    else exchange (amount_of (columns 24 34 line)))

-- the transaction number of BKS24 to BKP84, and the agent of BOH03, BOT93 and BOT94
abbrev pub first_number : List ℕ → ℕ
first_number line = number_in (columns 14 21 line)

unfoldable pub record_of : FileForm → RecordName → List ℕ → Record
record_of form Bfh01 line =
    file_header
    (record {
      airline = number_in (columns 14 16 line);
      period = number_in (columns 17 21 line);
      remittance = columns 22 27 line;
      currency = columns 28 30 line;
      form = file_form_in (columns 31 37 line);
    })
record_of form Bch02 line =
    period_header (number_in (columns 14 18 line))
    (record { first = columns 19 24 line; last = columns 25 30 line; remittance = columns 31 36 line })
record_of form Boh03 line = office_header (first_number line) (number_in (columns 22 26 line)) (columns 27 29 line)
record_of form Bkt06 line = transaction_header (first_number line) (number_in (columns 22 24 line))
record_of form Bks24 line =
    document (first_number line) (number_in (columns 43 50 line)) (code_in (columns 39 42 line))
    (record {
      issued = columns 22 27 line;
      number = number_in (columns 28 37 line);
      check_digit = columns 38 38 line;
      name = columns 51 99 line;
    })
record_of form Bks30 line =
    part (first_number line) (amounts (record { fare = amount_of (columns 22 32 line); taxes = columns 33 110 line }))
record_of form Bks39 line =
    part (first_number line)
    (commission (record { rate = number_in (columns 22 26 line); amount = amount_of (columns 27 37 line) }))
record_of form Bks42 line =
    part (first_number line)
    (commission_tax (record { hundredths = number_in (columns 22 26 line); amount = amount_of (columns 27 37 line) }))
record_of form Bks45 line =
    part (first_number line)
    (related (record { airline = number_in (columns 22 24 line); number = columns 25 34 line; check_digit = columns 35 35 line }))
record_of form Bkp84 line = part (first_number line) (payment_of line)
record_of form Bot93 line =
    code_totals (first_number line) (code_in (columns 22 25 line)) (totals_of (columns 26 93 line) (tax_in form 94 line))
record_of form Bot94 line = office_totals (first_number line) (totals_of (columns 22 89 line) (tax_in form 90 line))
record_of form Bct95 line = period_totals (number_in (columns 14 18 line)) (number_in (columns 19 26 line)) (totals_of (columns 27 94 line) (tax_in form 95 line))
record_of form Bft99 line = file_totals (number_in (columns 14 16 line)) (number_in (columns 17 24 line)) (totals_of (columns 25 92 line) (tax_in form 93 line))

-- ---- lines

-- the line is record number n of a file of this form, with some name, and says this
pub record IsRecord (form : FileForm) (n : ℕ) (line : List ℕ) (r : Record) : Type 0 where
  pub name : RecordName
  pub wide : is_wide line ≡ true
  pub sequence : spells n (columns 4 11 line) ≡ true
  pub digits : name_of (columns 12 13 line) ≡ Some name
  pub letters_are : bytes_eq (columns 1 3 line) (letters name) ≡ true
  pub fields : fields_fit form name line ≡ true
  pub says : r ≡ record_of form name line

-- lines are records of a file of this form, from number n on
abbrev pub AreRecords : FileForm → ℕ → List (List ℕ) → List Record → Type 0
AreRecords form n [] [] = Unit {0}
AreRecords form n (line ∷ lines) (r ∷ records) = IsRecord form n line r × AreRecords form (suc n) lines records
AreRecords form n [] (r ∷ records) = ⊥
AreRecords form n (line ∷ lines) [] = ⊥
