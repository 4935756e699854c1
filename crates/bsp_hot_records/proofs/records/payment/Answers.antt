use Rattle.std.proofs.Common.{refl}
use Rattle.bsp_hot_records.specs.Records.{record_of, fields_fit}
use Rattle.bsp_hot_records.proofs.records.payment.Goals as goal

pub returns-in_default : goal.returns-in_default
unfolding record_of fields_fit
returns-in_default c = record { value = λ form. rw (c.in_default.ensures.none) refl; small = tt }

pub returns-then-not-form_fits : goal.returns-then-not-form_fits
unfolding record_of fields_fit
returns-then-not-form_fits c = record { value = λ form. rw (c.in-Some.ensures.fits, ← c.if-not-form_fits.ensures) refl; small = tt }

pub returns-in_default-amount_in : goal.returns-in_default-amount_in
unfolding record_of fields_fit
returns-in_default-amount_in c = record { value = λ form. rw (c.in-Some.ensures.fits, ← c.if-not-form_fits.ensures, c.in_default-amount_in.ensures.none) refl; small = tt }

pub returns-then-not-all_spaces : goal.returns-then-not-all_spaces
unfolding record_of fields_fit
returns-then-not-all_spaces c = record { value = λ form. rw (c.in-Some.ensures.fits, ← c.if-not-form_fits.ensures, c.in-Some-amount_in.ensures.fits, ← c.if-not-all_spaces.ensures) refl; small = tt }
