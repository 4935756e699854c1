use Rattle.std.proofs.Common.{◌≡◌, ◌&&◌, refl, sym, ◌∙◌}
use Rattle.std.specs.List.{list_all}
use Rattle.bsp_fields.specs.Columns.{columns, is_letter}
use Rattle.bsp_fields.specs.Fields.{is_record_day}
use Rattle.bsp_hot_records.specs.Records.{record_of, fields_fit}
use Rattle.bsp_hot_records.proofs.TestLemmas.{asked, spared}
use Rattle.bsp_hot_records.proofs.records.file_header.Goals as goal
use Rattle.bsp_hot_records.proofs.records.file_header.Goals.{Joined-is_record_day, then-is_record_day, else-is_record_day}

-- the day of remittance and the currency
tested : (c : Joined-is_record_day) → c.if-is_record_day.value ≡ (is_record_day (columns 22 27 c.args.line.now) && list_all is_letter (columns 28 30 c.args.line.now))
tested c =
    elim c.if-is_record_day.branch [
      | then-is_record_day w ↦ asked _ _ _ _ w.if-is_record_day.true c.is_record_day.ensures (w.value-is ∙ w.all_letters.ensures)
      | else-is_record_day w ↦ spared _ _ _ _ w.if-is_record_day.false c.is_record_day.ensures w.value-is
    ]

pub returns-in_default : goal.returns-in_default
unfolding record_of fields_fit
returns-in_default c = record { value = λ form. rw (c.in_default.ensures.none) refl; small = tt }

pub returns-in_default-period_in : goal.returns-in_default-period_in
unfolding record_of fields_fit
returns-in_default-period_in c = record { value = λ form. rw (c.in-Some.ensures.fits, c.in_default-period_in.ensures.none) refl; small = tt }

pub returns-then-not-all_letters : goal.returns-then-not-all_letters
unfolding record_of fields_fit
returns-then-not-all_letters c =
    let failed = sym (tested (goal.at.returns-then-not-all_letters c).Joined-is_record_day) ∙ c.if-not-all_letters.true in
    record { value = λ form. rw (c.in-Some.ensures.fits, c.in-Some-period_in.ensures.fits, failed) refl; small = tt }

pub returns-in_default-of : goal.returns-in_default-of
unfolding record_of fields_fit
returns-in_default-of c =
    let passed = sym (tested (goal.at.returns-in_default-of c).Joined-is_record_day) ∙ c.if-not-all_letters.false in
    record {
      value = λ form. rw (c.in-Some.ensures.fits, c.in-Some-period_in.ensures.fits, passed, ← c.in_default-of.ensures) refl;
      small = tt;
    }

pub returns-then-not-all_spaces : goal.returns-then-not-all_spaces
unfolding record_of fields_fit
returns-then-not-all_spaces c =
    let passed = sym (tested (goal.at.returns-then-not-all_spaces c).Joined-is_record_day) ∙ c.if-not-all_letters.false in
    record { value = λ form. rw (c.in-Some.ensures.fits, c.in-Some-period_in.ensures.fits, passed, ← c.in-Some-of.ensures, ← c.if-not-all_spaces.ensures) refl; small = tt }

pub returns : goal.returns
unfolding record_of fields_fit
returns c =
    let passed = sym (tested (goal.at.returns c).Joined-is_record_day) ∙ c.if-not-all_letters.false in
    record {
      value = λ form. rw (c.in-Some.ensures.fits, c.in-Some-period_in.ensures.fits, passed, ← c.in-Some-of.ensures, ← c.if-not-all_spaces.ensures, c.in-Some.ensures.value, c.in-Some-period_in.ensures.value, c.currency_of.ensures) refl;
      small = tt;
    }
