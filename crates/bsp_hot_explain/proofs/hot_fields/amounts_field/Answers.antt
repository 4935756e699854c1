use Rattle.bsp_explain.specs.TaxFields.{tax_fields}
use Rattle.bsp_hot_explain.specs.HotFields.{fare_fields, fields_after_taxes}
use Rattle.bsp_explain.proofs.Finding.{none_of_three, some_of_three}
use Rattle.bsp_hot_explain.proofs.HotLemmas.{amounts_is}
use Rattle.bsp_hot_explain.proofs.hot_fields.amounts_field.Goals as goal

pub returns-clause-none : goal.returns-clause-none
returns-clause-none c = λ form.
    let line = c.args.line.now in
    rw (c.or-2.ensures, c.or.ensures, amounts_is form line) (none_of_three line fare_fields (tax_fields 33 line) fields_after_taxes c.first_unfit-fare.result c.tax_field-tax.result c.first_unfit-after.result c.first_unfit-fare.ensures.none c.tax_field-tax.ensures.none c.first_unfit-after.ensures.none)

pub returns-clause-some : goal.returns-clause-some
returns-clause-some c = λ form.
    let line = c.args.line.now in
    rw (c.or-2.ensures, c.or.ensures, amounts_is form line) (some_of_three line fare_fields (tax_fields 33 line) fields_after_taxes c.first_unfit-fare.result c.tax_field-tax.result c.first_unfit-after.result c.first_unfit-fare.ensures.none c.tax_field-tax.ensures.none c.first_unfit-fare.ensures.some c.tax_field-tax.ensures.some c.first_unfit-after.ensures.some)
