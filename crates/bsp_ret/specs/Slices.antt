-- Fields as slices of their records, by the columns of the records.
use Rattle.std.specs.Prelude.{◌≡◌, ℕ, List, [], ◌∷◌}
use Rattle.bsp_fields.specs.Taxes.{tax_places, code_part, amount_part}
use Rattle.bsp_ret_records.specs.Records.{system_id, file_date, file_time, country, file_number, airline_part, number_part, check_digit_part, transaction_number, transaction_code, agent, document, issued, passenger, related_document, fare, rate, commission, payment_amount, vendor, record_count, transaction_count, total}
use Rattle.bsp_ret.specs.declared.fields.HeaderFields.{HeaderFields}
use Rattle.bsp_ret.specs.declared.fields.DocumentFields.{DocumentFields}
use Rattle.bsp_ret.specs.declared.fields.SaleFields.{SaleFields}
use Rattle.bsp_ret.specs.declared.fields.TaxFields.{TaxFields}
use Rattle.bsp_ret.specs.declared.fields.AmountsFields.{AmountsFields}
use Rattle.bsp_ret.specs.declared.fields.FormFields.{FormFields}
use Rattle.bsp_ret.specs.declared.fields.GroupFields.{GroupFields}
use Rattle.bsp_ret.specs.declared.fields.TrailerFields.{TrailerFields}
use Rattle.bsp_ret.specs.Ret.{Group, IsGroup}
use Rattle.bsp_ret.specs.Content.{InBoth}

pub record IsHeaderOf (line : List ℕ) (f : HeaderFields) : Type 0 where
  pub system_id : f.system_id.now ≡ system_id line
  pub date : f.date.now ≡ file_date line
  pub time : f.time.now ≡ file_time line
  pub country : f.country.now ≡ country line
  pub file_number : f.file_number.now ≡ file_number line

-- a document in fourteen characters
pub record IsDocumentOf (text : List ℕ) (f : DocumentFields) : Type 0 where
  pub airline : f.airline.now ≡ airline_part text
  pub number : f.number.now ≡ number_part text
  pub check_digit : f.check_digit.now ≡ check_digit_part text

pub record IsSaleOf (line : List ℕ) (f : SaleFields) : Type 0 where
  pub number : f.number.now ≡ transaction_number line
  pub code : f.code.now ≡ transaction_code line
  pub agent : f.agent.now ≡ agent line
  pub document : IsDocumentOf (document line) f.document
  pub issued : f.issued.now ≡ issued line
  pub passenger : f.passenger.now ≡ passenger line

abbrev pub IsRelatedOf : List ℕ → DocumentFields → Type 0
IsRelatedOf line f = IsDocumentOf (related_document line) f

-- a tax place of thirteen characters
pub record IsTaxOf (place : List ℕ) (f : TaxFields) : Type 0 where
  pub code : f.code.now ≡ code_part place
  pub amount : f.amount.now ≡ amount_part place

abbrev pub AreTaxesOf : List (List ℕ) → List TaxFields → Type 0
AreTaxesOf [] [] = Unit {0}
AreTaxesOf (place ∷ places) (tax ∷ taxes) = IsTaxOf place tax × AreTaxesOf places taxes
AreTaxesOf [] (tax ∷ taxes) = ⊥
AreTaxesOf (place ∷ places) [] = ⊥

pub record AreAmountsOf (line : List ℕ) (f : AmountsFields) : Type 0 where
  pub fare : f.fare.now ≡ fare line
  pub taxes : AreTaxesOf (tax_places line) f.taxes
  pub rate : f.rate.now ≡ rate line
  pub commission : f.commission.now ≡ commission line

pub record IsFormOf (line : List ℕ) (f : FormFields) : Type 0 where
  pub amount : f.amount.now ≡ payment_amount line
  pub vendor : f.vendor.now ≡ vendor line

pub record IsTrailerOf (line : List ℕ) (f : TrailerFields) : Type 0 where
  pub records : f.records.now ≡ record_count line
  pub transactions : f.transactions.now ≡ transaction_count line
  pub sum : f.sum.now ≡ total line

-- the fields of a group's records, where it has them
pub record AreFieldsOf (g : Group) (f : GroupFields) : Type 0 where
  pub sale : IsSaleOf g.sale f.sale
  pub related : InBoth IsRelatedOf g.related f.related
  pub second : InBoth IsRelatedOf g.second f.second
  pub amounts : InBoth AreAmountsOf g.amounts f.amounts
  pub cash : InBoth IsFormOf g.cash f.cash
  pub credit : InBoth IsFormOf g.credit f.credit
  pub exchange : InBoth IsFormOf g.exchange f.exchange

-- the lines are the group of transaction n, with these fields
pub record HasFields (n : ℕ) (lines : List (List ℕ)) (f : GroupFields) : Type 0 where
  pub is : IsGroup n lines
  pub fields : AreFieldsOf is.group f
