use Rattle.std.proofs.Common.{◌≡◌, sym, ◌∙◌, false}
use Rattle.std.proofs.lemmas.Result.{err_from_is_err_and}
use Rattle.bsp_fields.proofs.DayTextLemmas.{text_reading-spelled, text_ok, text_err, text_no_dash}
use Rattle.bsp_fields.proofs.day.Day.read_text.Goals as goal
use Rattle.bsp_fields.proofs.day.Day.read_text.Goals.{then-text-ne45-via-then-text-ne45, then-text-ne45-via-else-text-ne45+then-text-ne45-2}
use Rattle.std.proofs.lemmas.Bool.{and_left, and_right, and_from, ne_eqb, eq-eqb}
use Rattle.std.specs.Prelude.{slice_index, ◌==◌}
use Rattle.bsp_fields.specs.Days.{has_dashes}

pub returns-in_err-year-clause-value : goal.returns-in_err-year-clause-value
returns-in_err-year-clause-value c =
    let failed = text_err c.args.text.now c.in_err-year.field-0.0 c.if-text-ne10.false (sym c.read_parts.ensures.value ∙ c.in_err-year.was) in
    let p = err_from_is_err_and c.from_residual.result c.from_residual.ensures.1 in
    rw (p.1, p.2) (sym failed)

pub returns-then-text-ne45-clause-value : goal.returns-then-text-ne45-clause-value
returns-then-text-ne45-clause-value c =
    let no_dash : has_dashes c.args.text.now ≡ false =
    elim c.then-text-ne45.branch [ then-text-ne45-via-then-text-ne45 w ↦ and_left (slice_index c.args.text.now 4 == 45) (slice_index c.args.text.now 7 == 45) (ne_eqb (slice_index c.args.text.now 4) 45 w.if-text-ne45.true) | then-text-ne45-via-else-text-ne45+then-text-ne45-2 w ↦ and_right (slice_index c.args.text.now 4 == 45) (slice_index c.args.text.now 7 == 45) (ne_eqb (slice_index c.args.text.now 7) 45 w.if-text-ne45-2.true) ] in
    sym (text_no_dash c.args.text.now c.in_ok-year.year c.in_ok-year.month c.in_ok-year.day c.if-text-ne10.false no_dash (sym c.read_parts.ensures.value ∙ c.in_ok-year.was))

pub returns-clause-value : goal.returns-clause-value
returns-clause-value c =
    let read = text_ok c.args.text.now c.in_ok-year.year c.in_ok-year.month c.in_ok-year.day c.if-text-ne10.false (and_from (slice_index c.args.text.now 4 == 45) (slice_index c.args.text.now 7 == 45) (eq-eqb (slice_index c.args.text.now 4) 45 c.if-text-ne45.false) (eq-eqb (slice_index c.args.text.now 7) 45 c.if-text-ne45-2.false)) (sym c.read_parts.ensures.value ∙ c.in_ok-year.was) in
    c.new.ensures ∙ sym read

pub returns-clause-spelled : goal.returns-clause-spelled
returns-clause-spelled c = text_reading-spelled c.args.text.now c.new.result (returns-clause-value c)
