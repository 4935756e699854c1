-- The fields of the records of a HOT file, from column 14 on.
use Rattle.std.specs.Prelude.{ℕ, ◌+◌, List, [], ◌∷◌, ◌++◌, if◌then◌else◌, codes}
use Rattle.std.specs.Str.{bytes_eq}
use Rattle.bsp_fields.specs.Columns.{columns}
use Rattle.bsp_hot_records.specs.declared.form.FileForm.{FileForm}
use Rattle.bsp_hot_records.specs.declared.form.FileForm.TheVariants.{One, Two}
use Rattle.bsp_hot_records.specs.declared.name.RecordName.{RecordName}
use Rattle.bsp_hot_records.specs.declared.name.RecordName.TheVariants.{Bfh01, Bch02, Boh03, Bkt06, Bks24, Bks30, Bks39, Bks42, Bks45, Bkp84, Bot93, Bot94, Bct95, Bft99}
use Rattle.bsp_explain.specs.declared.form.Form.{Form}
use Rattle.bsp_explain.specs.declared.form.Form.TheVariants as form
use Rattle.bsp_explain.specs.declared.name.Name.TheVariants as name
use Rattle.bsp_explain.specs.declared.field.Field.{Field}
use Rattle.bsp_explain.specs.Fields.{field}
use Rattle.bsp_explain.specs.TaxFields.{tax_fields}

-- BKS30, before and after its tax places
abbrev pub fare_fields : List Field
fare_fields = field 14 21 form.Digits name.TransactionNumber ∷ field 22 32 form.Amount name.Fare ∷ []

abbrev pub fields_after_taxes : List Field
fields_after_taxes = field 111 136 form.Spaces name.Unused ∷ []

abbrev pub amounts_fields : List ℕ → List Field
amounts_fields line = fare_fields ++ (tax_fields 33 line ++ fields_after_taxes)

-- BKP84: a card vendor comes with CC
abbrev pub card_form : List ℕ → Form
card_form payment = if bytes_eq payment (codes "CC") then form.LettersOrDigits else form.Spaces

abbrev pub payment_fields : List ℕ → List Field
payment_fields line =
    field 14 21 form.Digits name.TransactionNumber
    ∷ field 22 23 form.FormOfPayment name.FormOfPayment
    ∷ field 24 34 form.Amount name.Amount
    ∷ field 35 36 (card_form (columns 22 23 line)) name.CardVendor
    ∷ field 37 136 form.Spaces name.Unused
    ∷ []

-- after the net, from a first column on: the tax on commission in form 2, and spaces
abbrev pub rest_fields : FileForm → ℕ → List Field
rest_fields One first = field first 136 form.Spaces name.Unused ∷ []
rest_fields Two first =
    field first (first + 14) form.Total name.CommissionTax ∷ field (first + 15) 136 form.Spaces name.Unused ∷ []

-- documents, cash, credit, commission and net, from a first column on, and what comes after them
abbrev pub totals_fields : FileForm → ℕ → List Field
totals_fields file_form first =
    field first (first + 7) form.Digits name.Documents
    ∷ field (first + 8) (first + 22) form.Total name.Cash
    ∷ field (first + 23) (first + 37) form.Total name.Credit
    ∷ field (first + 38) (first + 52) form.Total name.Commission
    ∷ field (first + 53) (first + 67) form.Total name.Net
    ∷ rest_fields file_form (first + 68)

-- of a record of a file of this form
abbrev pub hot_fields : FileForm → RecordName → List ℕ → List Field
hot_fields file_form Bfh01 line =
    field 14 16 form.Digits name.Airline
    ∷ field 17 21 form.Digits name.Period
    ∷ field 22 27 form.Day name.RemittanceDay
    ∷ field 28 30 form.Letters name.Currency
    ∷ field 31 37 form.ProductionProfile name.Production
    ∷ field 38 136 form.Spaces name.Unused
    ∷ []
hot_fields file_form Bch02 line =
    field 14 18 form.Digits name.Period
    ∷ field 19 24 form.Day name.FirstDay
    ∷ field 25 30 form.Day name.LastDay
    ∷ field 31 36 form.Day name.RemittanceDay
    ∷ field 37 136 form.Spaces name.Unused
    ∷ []
hot_fields file_form Boh03 line =
    field 14 21 form.Digits name.Agent
    ∷ field 22 26 form.Digits name.Period
    ∷ field 27 29 form.Letters name.Currency
    ∷ field 30 136 form.Spaces name.Unused
    ∷ []
hot_fields file_form Bkt06 line =
    field 14 21 form.Digits name.TransactionNumber
    ∷ field 22 24 form.Digits name.Airline
    ∷ field 25 136 form.Spaces name.Unused
    ∷ []
hot_fields file_form Bks24 line =
    field 14 21 form.Digits name.TransactionNumber
    ∷ field 22 27 form.Day name.DateOfIssue
    ∷ field 28 37 form.Digits name.Document
    ∷ field 38 38 form.Digits name.CheckDigit
    ∷ field 39 42 form.DocumentCode name.DocumentCode
    ∷ field 43 50 form.Digits name.Agent
    ∷ field 100 136 form.Spaces name.Unused
    ∷ []
hot_fields file_form Bks30 line = amounts_fields line
hot_fields file_form Bks39 line =
    field 14 21 form.Digits name.TransactionNumber
    ∷ field 22 26 (form.AtMost 10000) name.Rate
    ∷ field 27 37 form.Amount name.Commission
    ∷ field 38 136 form.Spaces name.Unused
    ∷ []
hot_fields file_form Bks42 line =
    field 14 21 form.Digits name.TransactionNumber
    ∷ field 22 26 (form.AtMost 10000) name.CommissionTaxRate
    ∷ field 27 37 form.Amount name.CommissionTax
    ∷ field 38 136 form.Spaces name.Unused
    ∷ []
hot_fields file_form Bks45 line =
    field 14 21 form.Digits name.TransactionNumber
    ∷ field 22 24 form.Digits name.Airline
    ∷ field 25 34 form.Digits name.Document
    ∷ field 35 35 form.Digits name.CheckDigit
    ∷ field 36 136 form.Spaces name.Unused
    ∷ []
hot_fields file_form Bkp84 line = payment_fields line
hot_fields file_form Bot93 line = field 14 21 form.Digits name.Agent ∷ field 22 25 form.DocumentCode name.DocumentCode ∷ totals_fields file_form 26
hot_fields file_form Bot94 line = field 14 21 form.Digits name.Agent ∷ totals_fields file_form 22
hot_fields file_form Bct95 line = field 14 18 form.Digits name.Period ∷ field 19 26 form.Digits name.Offices ∷ totals_fields file_form 27
hot_fields file_form Bft99 line = field 14 16 form.Digits name.Airline ∷ field 17 24 form.Digits name.RecordCount ∷ totals_fields file_form 25
