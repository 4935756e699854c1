use Rattle.std.proofs.Common.{refl}
use Rattle.bsp_hot_records.specs.Records.{record_of, fields_fit}
use Rattle.bsp_hot_records.proofs.records.transaction_header.Goals as goal

pub returns-in_default : goal.returns-in_default
unfolding record_of fields_fit
returns-in_default c = record { value = λ form. rw (c.in_default.ensures.none) refl; small = tt }

pub returns-in_default-airline_in : goal.returns-in_default-airline_in
unfolding record_of fields_fit
returns-in_default-airline_in c = record { value = λ form. rw (c.in-Some.ensures.fits, c.in_default-airline_in.ensures.none) refl; small = tt }

pub returns-then-not-all_spaces : goal.returns-then-not-all_spaces
unfolding record_of fields_fit
returns-then-not-all_spaces c = record { value = λ form. rw (c.in-Some.ensures.fits, c.in-Some-airline_in.ensures.fits, ← c.if-not-all_spaces.ensures) refl; small = tt }

pub returns : goal.returns
unfolding record_of fields_fit
returns c = record { value = λ form. rw (c.in-Some.ensures.fits, c.in-Some-airline_in.ensures.fits, ← c.if-not-all_spaces.ensures, c.in-Some.ensures.value, c.in-Some-airline_in.ensures.value) refl; small = tt }
