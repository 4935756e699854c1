use Rattle.std.proofs.Common.{◌≡◌, Bool, ◌&&◌, List, ℕ, refl, sym, ◌∙◌}
use Rattle.std.specs.List.{list_all}
use Rattle.bsp_fields.specs.Columns.{columns, is_space}
use Rattle.bsp_fields.specs.Fields.{is_record_day}
use Rattle.bsp_hot_records.specs.Records.{record_of, fields_fit}
use Rattle.bsp_hot_records.proofs.TestLemmas.{asked, spared}
use Rattle.bsp_hot_records.proofs.records.period_header.Goals as goal
use Rattle.bsp_hot_records.proofs.records.period_header.Goals.{Joined-is_record_day-3, then-is_record_day, else-is_record_day, then-is_record_day-2, else-is_record_day-2, then-is_record_day-3, else-is_record_day-3}

-- the three days, and spaces behind them
abbrev days_fit : List ℕ → Bool
days_fit line = is_record_day (columns 19 24 line) && is_record_day (columns 25 30 line) && is_record_day (columns 31 36 line) && list_all is_space (columns 37 136 line)

tested : (c : Joined-is_record_day-3) → c.if-is_record_day-3.fits ≡ days_fit c.args.line.now
tested c =
    let line = c.args.line.now in
    let first : c.if-is_record_day.value ≡ (is_record_day (columns 19 24 line) && is_record_day (columns 25 30 line)) =
    elim c.if-is_record_day.branch [
      | then-is_record_day w ↦ asked _ _ _ _ w.if-is_record_day.true c.is_record_day.ensures (w.value-is ∙ w.is_record_day-then-is_record_day.ensures)
      | else-is_record_day w ↦ spared _ _ _ _ w.if-is_record_day.false c.is_record_day.ensures w.value-is
    ] in
    let second : c.if-is_record_day-2.value ≡ (c.if-is_record_day.value && is_record_day (columns 31 36 line)) =
    elim c.if-is_record_day-2.branch [
      | then-is_record_day-2 w ↦ asked _ _ _ _ w.if-is_record_day-2.true refl (w.value-is ∙ w.is_record_day-then-is_record_day-2.ensures)
      | else-is_record_day-2 w ↦ spared _ _ _ _ w.if-is_record_day-2.false refl w.value-is
    ] in
    let third : c.if-is_record_day-3.fits ≡ (c.if-is_record_day-2.value && list_all is_space (columns 37 136 line)) =
    elim c.if-is_record_day-3.branch [
      | then-is_record_day-3 w ↦ asked _ _ _ _ w.if-is_record_day-3.true refl (w.fits-is ∙ w.all_spaces-fits.ensures)
      | else-is_record_day-3 w ↦ spared _ _ _ _ w.if-is_record_day-3.false refl w.fits-is
    ] in
    third ∙ rw (second, first) refl

pub returns-in_default : goal.returns-in_default
unfolding record_of fields_fit
returns-in_default c = record { value = λ form. rw (c.in_default.ensures.none) refl; small = tt }

pub returns-then-not-fits : goal.returns-then-not-fits
unfolding record_of fields_fit
returns-then-not-fits c =
    let failed = sym (tested (goal.at.returns-then-not-fits c).Joined-is_record_day-3) ∙ c.if-not-fits.true in
    record { value = λ form. rw (c.in-Some.ensures.fits, failed) refl; small = tt }

pub returns : goal.returns
unfolding record_of fields_fit
returns c =
    let passed = sym (tested (goal.at.returns c).Joined-is_record_day-3) ∙ c.if-not-fits.false in
    record { value = λ form. rw (c.in-Some.ensures.fits, passed, c.in-Some.ensures.value) refl; small = tt }
