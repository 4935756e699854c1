-- The fields of the records of a RET file. A transaction's number is judged with its place.
use Rattle.std.specs.Prelude.{ℕ, Bool, ◌&&◌, List, [], ◌∷◌, ◌++◌, Option, Some, None}
use Rattle.bsp_ret_records.specs.declared.codes.FormOfPayment.{FormOfPayment}
use Rattle.bsp_ret_records.specs.declared.codes.FormOfPayment.TheVariants.{Cash, Credit, Exchange}
use Rattle.bsp_ret_records.specs.Records.{is_header, is_production, header_fits, form_of}
use Rattle.bsp_explain.specs.declared.form.Form.{Form}
use Rattle.bsp_explain.specs.declared.form.Form.TheVariants as form
use Rattle.bsp_explain.specs.declared.name.Name.TheVariants as name
use Rattle.bsp_explain.specs.declared.field.Field.{Field}
use Rattle.bsp_explain.specs.Fields.{field}
use Rattle.bsp_explain.specs.TaxFields.{tax_fields}

-- a header without fault
abbrev pub is_whole_header : List ℕ → Bool
is_whole_header line = is_header line && is_production line && header_fits line

-- record 1, in the order of the fault table
abbrev pub header_fields : List Field
header_fields =
    field 1 1 form.HeaderMark name.Identifier
    ∷ field 28 30 form.Profile name.Profile
    ∷ field 24 27 form.Production name.Production
    ∷ field 2 5 form.LettersOrDigits name.SystemId
    ∷ field 6 11 form.Day name.Date
    ∷ field 12 13 (form.AtMost 23) name.Hours
    ∷ field 14 15 (form.AtMost 59) name.Minutes
    ∷ field 16 17 form.Letters name.Country
    ∷ field 18 23 form.Digits name.FileNumber
    ∷ field 31 136 form.Spaces name.Unused
    ∷ []

-- record 2; a passenger's name has any characters
abbrev pub sale_fields : List Field
sale_fields =
    field 8 11 form.TransactionCode name.TransactionCode
    ∷ field 12 19 form.Digits name.Agent
    ∷ field 20 22 form.Digits name.Airline
    ∷ field 23 32 form.Digits name.Document
    ∷ field 33 33 form.Digits name.CheckDigit
    ∷ field 34 39 form.Day name.DateOfIssue
    ∷ field 89 136 form.Spaces name.Unused
    ∷ []

-- record 3
abbrev pub related_fields : List Field
related_fields =
    field 8 10 form.Digits name.Airline
    ∷ field 11 20 form.Digits name.Document
    ∷ field 21 21 form.Digits name.CheckDigit
    ∷ field 22 136 form.Spaces name.Unused
    ∷ []

-- record 5, before and after its tax places
abbrev pub fare_fields : List Field
fare_fields = field 8 18 form.Amount name.Fare ∷ []

abbrev pub commission_fields : List Field
commission_fields =
    field 97 101 (form.AtMost 10000) name.Rate
    ∷ field 102 112 form.Amount name.Commission
    ∷ field 113 136 form.Spaces name.Unused
    ∷ []

abbrev pub amounts_fields : List ℕ → List Field
amounts_fields line = fare_fields ++ (tax_fields 19 line ++ commission_fields)

-- record 8: a card vendor comes with CC
abbrev pub vendor_form : Option FormOfPayment → Form
vendor_form None = form.Spaces
vendor_form (Some Cash) = form.Spaces
vendor_form (Some Credit) = form.LettersOrDigits
vendor_form (Some Exchange) = form.Spaces

abbrev pub payment_fields : List ℕ → List Field
payment_fields line =
    field 8 9 form.FormOfPayment name.FormOfPayment
    ∷ field 10 20 form.Amount name.Amount
    ∷ field 21 22 (vendor_form (form_of line)) name.CardVendor
    ∷ field 23 136 form.Spaces name.Unused
    ∷ []

-- record Z
abbrev pub trailer_fields : List Field
trailer_fields =
    field 2 8 form.Digits name.RecordCount
    ∷ field 9 15 form.Digits name.TransactionCount
    ∷ field 16 30 form.Total name.Sum
    ∷ field 31 136 form.Spaces name.Unused
    ∷ []
