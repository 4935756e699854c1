use Rattle.std.proofs.Common.{refl}
use Rattle.bsp_hot_records.specs.Records.{record_of, fields_fit}
use Rattle.bsp_hot_records.proofs.records.document.Goals as goal

pub returns-in_default : goal.returns-in_default
unfolding record_of fields_fit
returns-in_default c = record { value = λ form. rw (c.in_default.ensures.none) refl; small = tt }

pub returns-then-not-is_record_day : goal.returns-then-not-is_record_day
unfolding record_of fields_fit
returns-then-not-is_record_day c = record { value = λ form. rw (c.in-Some.ensures.fits, ← c.if-not-is_record_day.ensures) refl; small = tt }

pub returns-in_default-document_number_in : goal.returns-in_default-document_number_in
unfolding record_of fields_fit
returns-in_default-document_number_in c = record { value = λ form. rw (c.in-Some.ensures.fits, ← c.if-not-is_record_day.ensures, c.in_default-document_number_in.ensures.none) refl; small = tt }

pub returns-then-not-all_digits : goal.returns-then-not-all_digits
unfolding record_of fields_fit
returns-then-not-all_digits c = record { value = λ form. rw (c.in-Some.ensures.fits, ← c.if-not-is_record_day.ensures, c.in-Some-document_number_in.ensures.fits, ← c.if-not-all_digits.ensures) refl; small = tt }

pub returns-in_default-code_of : goal.returns-in_default-code_of
unfolding record_of fields_fit
returns-in_default-code_of c = record { value = λ form. rw (c.in-Some.ensures.fits, ← c.if-not-is_record_day.ensures, c.in-Some-document_number_in.ensures.fits, ← c.if-not-all_digits.ensures, ← c.in_default-code_of.ensures) refl; small = tt }

pub returns-in_err-agent : goal.returns-in_err-agent
unfolding record_of fields_fit
returns-in_err-agent c = record { value = λ form. rw (c.from_residual.ensures, c.in-Some.ensures.fits, ← c.if-not-is_record_day.ensures, c.in-Some-document_number_in.ensures.fits, ← c.if-not-all_digits.ensures, ← c.in-Some-code_of.ensures, c.in_err-agent.ensures.none) refl; small = rw c.from_residual.ensures tt }

pub returns-then-not-all_spaces : goal.returns-then-not-all_spaces
unfolding record_of fields_fit
returns-then-not-all_spaces c = record { value = λ form. rw (c.in-Some.ensures.fits, ← c.if-not-is_record_day.ensures, c.in-Some-document_number_in.ensures.fits, ← c.if-not-all_digits.ensures, ← c.in-Some-code_of.ensures, c.in_ok-agent.ensures.fits, ← c.if-not-all_spaces.ensures) refl; small = tt }

pub returns : goal.returns
unfolding record_of fields_fit
returns c = record { value = λ form. rw (c.in-Some.ensures.fits, ← c.if-not-is_record_day.ensures, c.in-Some-document_number_in.ensures.fits, ← c.if-not-all_digits.ensures, ← c.in-Some-code_of.ensures, c.in_ok-agent.ensures.fits, ← c.if-not-all_spaces.ensures, c.in-Some.ensures.value, c.in-Some-document_number_in.ensures.value, c.in_ok-agent.ensures.value) refl; small = tt }
