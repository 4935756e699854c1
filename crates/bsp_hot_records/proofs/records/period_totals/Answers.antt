use Rattle.std.proofs.Common.{refl, rules}
use Rattle.std.specs.Int.{w128}
use Rattle.std.specs.Prelude.{FitsSigned}
use Rattle.std.proofs.lemmas.Int.{to_z-of_z}
use Rattle.std.proofs.Math.Bool.{and-false}
use Rattle.bsp_hot_records.specs.Records.{record_of, fields_fit}
use Rattle.bsp_hot_records.proofs.records.period_totals.Goals as goal

pub returns-in_default : goal.returns-in_default
unfolding record_of fields_fit
returns-in_default c = record { value = rw (c.in_default.ensures.none) refl; small = tt }

pub returns-in_default-count_in : goal.returns-in_default-count_in
unfolding record_of fields_fit
returns-in_default-count_in c = record { value = rw (c.in-Some.ensures.fits, c.in_default-count_in.ensures.none) refl; small = tt }

pub returns-in_default-tax_in : goal.returns-in_default-tax_in
unfolding record_of fields_fit
returns-in_default-tax_in c = record { value = rw (c.in-Some.ensures.fits, c.in-Some-count_in.ensures.fits, c.in_default-tax_in.ensures.none, and-false _) refl; small = tt }

pub returns-in_default-totals_in : goal.returns-in_default-totals_in
unfolding record_of fields_fit
returns-in_default-totals_in c = record { value = rw (c.in-Some.ensures.fits, c.in-Some-count_in.ensures.fits, c.in_default-totals_in.ensures.none) refl; small = tt }

pub returns : goal.returns
unfolding record_of fields_fit
returns c =
    let fits : FitsSigned w128 c.in-Some-tax_in.tax = search rules in
    let same = to_z-of_z w128 c.in-Some-tax_in.tax fits in
    record {
      value =
          rw (c.in-Some.ensures.fits, c.in-Some-count_in.ensures.fits, c.in-Some-tax_in.ensures.fits, c.in-Some-totals_in.ensures.fits, c.in-Some-totals_in.ensures.value, same, c.in-Some-tax_in.ensures.value, c.in-Some.ensures.value, c.in-Some-count_in.ensures.value) refl;
      small = tt;
    }
