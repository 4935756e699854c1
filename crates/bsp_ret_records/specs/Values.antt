-- The values of records whose fields fit.
use Rattle.std.specs.Prelude.{◌≡◌, ◌==◌, nat_lt, ◌&&◌, ◌||◌, ℕ, ℤ, Bool, true, List, [], ◌∷◌, Option, Some, None, Ok}
use Rattle.std.specs.List.{list_all}
use Rattle.bsp_fields.specs.Decimal.{number_of}
use Rattle.bsp_fields.specs.Zoned.{zoned_reading}
use Rattle.bsp_fields.specs.Codes.{code_reading}
use Rattle.bsp_fields.specs.Days.{record_reading}
use Rattle.bsp_fields.specs.Columns.{is_space}
use Rattle.bsp_fields.specs.Taxes.{tax_places, code_part, amount_part}
use Rattle.bsp_ret_records.specs.declared.transactions.ReportedDocument.{ReportedDocument}
use Rattle.bsp_ret_records.specs.declared.transactions.Sale.{Sale}
use Rattle.bsp_ret_records.specs.declared.transactions.Tax.{Tax}
use Rattle.bsp_ret_records.specs.declared.transactions.Amounts.{Amounts}
use Rattle.bsp_ret_records.specs.declared.transactions.CardPayment.{CardPayment}
use Rattle.bsp_ret_records.specs.Records.{airline_part, number_part, check_digit_part, agent, document, issued, code_of, related_document, fare, rate, commission, payment_amount, vendor}

-- no value, or one that passes the test
abbrev pub none_or : {A : Type 0} → (A → Bool) → Option A → Bool
none_or test None = true
none_or test (Some x) = test x

-- a document in fourteen characters: its airline, its number and its check digit
pub record IsDocument (text : List ℕ) (d : ReportedDocument) : Type 0 where
  pub airline : code_reading 3 (airline_part text) ≡ Ok d.airline
  pub number : d.number ≡ number_part text
  pub check_digit : number_of (check_digit_part text) ≡ d.check_digit

-- a document comes before another: by the airline, then by the number
abbrev pub is_before : ReportedDocument → ReportedDocument → Bool
is_before d e = nat_lt d.airline e.airline || ((d.airline == e.airline) && nat_lt (number_of d.number) (number_of e.number))

-- ---- record 2

pub record IsSale (line : List ℕ) (s : Sale) : Type 0 where
  pub code : code_of line ≡ Some s.code
  pub agent : s.agent ≡ agent line
  pub document : IsDocument (document line) s.document
  pub issued : record_reading (issued line) ≡ Ok s.issued

-- ---- record 3

abbrev pub IsRelated : List ℕ → ReportedDocument → Type 0
IsRelated line d = IsDocument (related_document line) d

-- ---- record 5

-- a tax place: a code and an amount, or spaces
abbrev pub IsTax : List ℕ → Option Tax → Type 0
IsTax place None = list_all is_space place ≡ true
IsTax place (Some tax) = (tax.code ≡ code_part place) × (zoned_reading 11 (amount_part place) ≡ Ok tax.amount)

abbrev pub AreTaxes : List (List ℕ) → List (Option Tax) → Type 0
AreTaxes [] [] = Unit {0}
AreTaxes (place ∷ places) (tax ∷ taxes) = IsTax place tax × AreTaxes places taxes
AreTaxes [] (tax ∷ taxes) = ⊥
AreTaxes (place ∷ places) [] = ⊥

pub record AreAmounts (line : List ℕ) (a : Amounts) : Type 0 where
  pub fare : zoned_reading 11 (fare line) ≡ Ok a.fare
  pub taxes : AreTaxes (tax_places line) a.taxes
  pub rate : number_of (rate line) ≡ a.rate
  pub commission : zoned_reading 11 (commission line) ≡ Ok a.commission

-- ---- record 8: its amount, and with CC its vendor

abbrev pub IsPayment : List ℕ → ℤ → Type 0
IsPayment line amount = zoned_reading 11 (payment_amount line) ≡ Ok amount

pub record IsCardPayment (line : List ℕ) (p : CardPayment) : Type 0 where
  pub amount : IsPayment line p.amount
  pub vendor : p.vendor ≡ vendor line
