use Rattle.std.proofs.Common.{◌≡◌, ◌&&◌, refl, sym, ◌∙◌}
use Rattle.std.specs.List.{list_all}
use Rattle.bsp_fields.specs.Columns.{columns, is_letter, is_space}
use Rattle.bsp_hot_records.specs.Records.{record_of, fields_fit}
use Rattle.bsp_hot_records.proofs.TestLemmas.{asked, spared}
use Rattle.bsp_hot_records.proofs.records.office_header.Goals as goal
use Rattle.bsp_hot_records.proofs.records.office_header.Goals.{Joined-all_letters, then-all_letters, else-all_letters}

-- the currency, and spaces behind it
tested : (c : Joined-all_letters) → c.if-all_letters.value ≡ (list_all is_letter (columns 27 29 c.args.line.now) && list_all is_space (columns 30 136 c.args.line.now))
tested c =
    elim c.if-all_letters.branch [
      | then-all_letters w ↦ asked _ _ _ _ w.if-all_letters.true c.all_letters.ensures (w.value-is ∙ w.all_spaces.ensures)
      | else-all_letters w ↦ spared _ _ _ _ w.if-all_letters.false c.all_letters.ensures w.value-is
    ]

pub returns-in_default : goal.returns-in_default
unfolding record_of fields_fit
returns-in_default c = record { value = λ form. rw (c.in_default.ensures.none) refl; small = tt }

pub returns-in_default-period_in : goal.returns-in_default-period_in
unfolding record_of fields_fit
returns-in_default-period_in c = record { value = λ form. rw (c.in-Some.ensures.fits, c.in_default-period_in.ensures.none) refl; small = tt }

pub returns-then-not-all_spaces : goal.returns-then-not-all_spaces
unfolding record_of fields_fit
returns-then-not-all_spaces c =
    let failed = sym (tested (goal.at.returns-then-not-all_spaces c).Joined-all_letters) ∙ c.if-not-all_spaces.true in
    record { value = λ form. rw (c.in-Some.ensures.fits, c.in-Some-period_in.ensures.fits, failed) refl; small = tt }

pub returns : goal.returns
unfolding record_of fields_fit
returns c =
    let passed = sym (tested (goal.at.returns c).Joined-all_letters) ∙ c.if-not-all_spaces.false in
    record {
      value = λ form. rw (c.in-Some.ensures.fits, c.in-Some-period_in.ensures.fits, passed, c.in-Some.ensures.value, c.in-Some-period_in.ensures.value, c.currency_of.ensures) refl;
      small = tt;
    }
