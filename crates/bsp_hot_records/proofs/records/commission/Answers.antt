use Rattle.std.proofs.Common.{refl}
use Rattle.bsp_hot_records.specs.Records.{record_of, fields_fit}
use Rattle.bsp_hot_records.proofs.SizeLemmas.{amount_stored}
use Rattle.bsp_hot_records.proofs.records.commission.Goals as goal

pub returns-in_default : goal.returns-in_default
unfolding record_of fields_fit
returns-in_default c = record { value = λ form. rw (c.in_default.ensures.none) refl; small = tt }

pub returns-then-not-spells_at_most : goal.returns-then-not-spells_at_most
unfolding record_of fields_fit
returns-then-not-spells_at_most c = record { value = λ form. rw (c.in-Some.ensures.fits, ← c.if-not-spells_at_most.ensures) refl; small = tt }

pub returns-in_default-amount_in : goal.returns-in_default-amount_in
unfolding record_of fields_fit
returns-in_default-amount_in c = record { value = λ form. rw (c.in-Some.ensures.fits, ← c.if-not-spells_at_most.ensures, c.in_default-amount_in.ensures.none) refl; small = tt }

pub returns-then-not-all_spaces : goal.returns-then-not-all_spaces
unfolding record_of fields_fit
returns-then-not-all_spaces c = record { value = λ form. rw (c.in-Some.ensures.fits, ← c.if-not-spells_at_most.ensures, c.in-Some-amount_in.ensures.fits, ← c.if-not-all_spaces.ensures) refl; small = tt }

pub returns : goal.returns
unfolding record_of fields_fit
returns c =
    let same = amount_stored c.in-Some-amount_in.amount c.in-Some-amount_in.ensures.small in
    record {
      value = λ form. rw (same, c.in-Some.ensures.fits, ← c.if-not-spells_at_most.ensures, c.in-Some-amount_in.ensures.fits, ← c.if-not-all_spaces.ensures, c.in-Some.ensures.value, c.in-Some-amount_in.ensures.value) refl;
      small = rw same c.in-Some-amount_in.ensures.small;
    }
