use Rattle.std.proofs.Common.{refl}
use Rattle.bsp_hot_records.specs.Records.{record_of, fields_fit}
use Rattle.bsp_hot_records.proofs.records.related.Goals as goal

pub returns-in_default : goal.returns-in_default
unfolding record_of fields_fit
returns-in_default c = record { value = λ form. rw (c.in_default.ensures.none) refl; small = tt }

pub returns-in_default-airline_in : goal.returns-in_default-airline_in
unfolding record_of fields_fit
returns-in_default-airline_in c = record { value = λ form. rw (c.in-Some.ensures.fits, c.in_default-airline_in.ensures.none) refl; small = tt }

pub returns-in_err-number : goal.returns-in_err-number
unfolding record_of fields_fit
returns-in_err-number c = record { value = λ form. rw (c.from_residual.ensures, c.in-Some.ensures.fits, c.in-Some-airline_in.ensures.fits, c.in_err-number.ensures.none) refl; small = rw c.from_residual.ensures tt }
