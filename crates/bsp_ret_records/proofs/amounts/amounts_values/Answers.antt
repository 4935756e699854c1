use Rattle.std.proofs.Common.{arith, ap, ◌∙◌}
use Rattle.std.specs.Str.{all_ascii_digits}
use Rattle.bsp_fields.specs.Decimal.{number_of}
use Rattle.bsp_fields.specs.Fields.{is_amount}
use Rattle.bsp_fields.specs.Taxes.{tax_places}
use Rattle.bsp_ret_records.proofs.ValueLemmas.{amounts_fields, place_at, place_fits}
use Rattle.bsp_ret_records.proofs.amounts.amounts_values.Goals as goal

pub amount_of-requires : goal.amount_of-requires
amount_of-requires c = ap is_amount c.fare.ensures ∙ (amounts_fields c.args.line.now c.requires.1).fare

pub tax_of-requires-clause-fits : goal.tax_of-requires-clause-fits
tax_of-requires-clause-fits c =
    ap place_fits c.tax_place.ensures.place ∙ place_at (tax_places c.args.line.now) 0 (omega arith) ((amounts_fields c.args.line.now c.requires.1).places)

pub tax_of-requires-2-clause-fits : goal.tax_of-requires-2-clause-fits
tax_of-requires-2-clause-fits c =
    ap place_fits c.tax_place-2.ensures.place ∙ place_at (tax_places c.args.line.now) 1 (omega arith) ((amounts_fields c.args.line.now c.requires.1).places)

pub tax_of-requires-3-clause-fits : goal.tax_of-requires-3-clause-fits
tax_of-requires-3-clause-fits c =
    ap place_fits c.tax_place-3.ensures.place ∙ place_at (tax_places c.args.line.now) 2 (omega arith) ((amounts_fields c.args.line.now c.requires.1).places)

pub tax_of-requires-4-clause-fits : goal.tax_of-requires-4-clause-fits
tax_of-requires-4-clause-fits c =
    ap place_fits c.tax_place-4.ensures.place ∙ place_at (tax_places c.args.line.now) 3 (omega arith) ((amounts_fields c.args.line.now c.requires.1).places)

pub tax_of-requires-5-clause-fits : goal.tax_of-requires-5-clause-fits
tax_of-requires-5-clause-fits c =
    ap place_fits c.tax_place-5.ensures.place ∙ place_at (tax_places c.args.line.now) 4 (omega arith) ((amounts_fields c.args.line.now c.requires.1).places)

pub tax_of-requires-6-clause-fits : goal.tax_of-requires-6-clause-fits
tax_of-requires-6-clause-fits c =
    ap place_fits c.tax_place-6.ensures.place ∙ place_at (tax_places c.args.line.now) 5 (omega arith) ((amounts_fields c.args.line.now c.requires.1).places)

pub number_of-requires-clause-digits : goal.number_of-requires-clause-digits
number_of-requires-clause-digits c =
    ap all_ascii_digits c.rate.ensures.columns ∙ (amounts_fields c.args.line.now c.requires.1).digits

pub overflow_cast-result : goal.overflow_cast-result
overflow_cast-result c =
    omega (arith, (amounts_fields c.args.line.now c.requires.1).rate, c.number_of.ensures ∙ ap number_of c.rate.ensures.columns)

pub amount_of-requires-2 : goal.amount_of-requires-2
amount_of-requires-2 c = ap is_amount c.commission.ensures ∙ (amounts_fields c.args.line.now c.requires.1).commission
