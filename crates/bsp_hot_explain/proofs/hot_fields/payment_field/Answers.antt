use Rattle.std.proofs.Common.{◌≡◌, ℕ, true, false, List, [], ◌∷◌, Option}
use Rattle.std.specs.Prelude.{IfSome, IfNone}
use Rattle.bsp_fields.specs.Columns.{columns}
use Rattle.bsp_hot_records.specs.declared.form.FileForm.{FileForm}
use Rattle.bsp_hot_records.specs.declared.name.RecordName.TheVariants.{Bkp84}
use Rattle.bsp_hot_records.specs.Records.{fields_fit}
use Rattle.bsp_explain.specs.declared.form.Form.{Form}
use Rattle.bsp_explain.specs.declared.form.Form.TheVariants as form
use Rattle.bsp_explain.specs.declared.name.Name.TheVariants as name
use Rattle.bsp_explain.specs.declared.field.Field.{Field}
use Rattle.bsp_explain.specs.Fields.{field, all_fit, first_unfit, IsAtFault}
use Rattle.bsp_hot_explain.specs.HotFields.{card_form, payment_fields}
use Rattle.bsp_hot_explain.proofs.HotLemmas.{payment_is}
use Rattle.bsp_hot_explain.proofs.hot_fields.payment_field.Goals as goal

-- the fields with that form of the card vendor
abbrev fields_with : Form → List Field
fields_with vendor =
    field 14 21 form.Digits name.TransactionNumber
    ∷ field 22 23 form.FormOfPayment name.FormOfPayment
    ∷ field 24 34 form.Amount name.Amount
    ∷ field 35 36 vendor name.CardVendor
    ∷ field 37 136 form.Spaces name.Unused
    ∷ []

first_with : (line : List ℕ) (vendor : Form) (r : Option Field) → vendor ≡ card_form (columns 22 23 line) → r ≡ first_unfit line (fields_with vendor) → r ≡ first_unfit line (payment_fields line)
first_with line vendor r is h = rw is at h

none_with : (file_form : FileForm) (line : List ℕ) (vendor : Form) (r : Option Field) → vendor ≡ card_form (columns 22 23 line) → IfNone r (all_fit line (fields_with vendor) ≡ true) → IfNone r (fields_fit file_form Bkp84 line ≡ true)
none_with file_form line vendor r is h = rw (payment_is file_form line) (rw is at h)

some_with : (file_form : FileForm) (line : List ℕ) (vendor : Form) (r : Option Field) → vendor ≡ card_form (columns 22 23 line) → IfSome r (λ f. IsAtFault line f × (all_fit line (fields_with vendor) ≡ false)) → IfSome r (λ f. IsAtFault line f × (fields_fit file_form Bkp84 line ≡ false))
some_with file_form line vendor r is h = rw (payment_is file_form line) (rw is at h)

pub returns-clause-first : goal.returns-clause-first
returns-clause-first c = first_with c.args.line.now c.card_form-vendor.result c.first_unfit.result c.card_form-vendor.ensures c.first_unfit.ensures.first

pub returns-clause-none : goal.returns-clause-none
returns-clause-none c = λ form. none_with form c.args.line.now c.card_form-vendor.result c.first_unfit.result c.card_form-vendor.ensures c.first_unfit.ensures.none

pub returns-clause-some : goal.returns-clause-some
returns-clause-some c = λ form. some_with form c.args.line.now c.card_form-vendor.result c.first_unfit.result c.card_form-vendor.ensures c.first_unfit.ensures.some
