use Rattle.std.proofs.Common.{sym, ◌∙◌}
use Rattle.std.proofs.lemmas.Result.{err_from_is_err_and}
use Rattle.bsp_fields.proofs.DayTextLemmas.{record_reading-spelled, record_ok, record_err}
use Rattle.bsp_fields.proofs.day.Day.read_record.Goals as goal

pub returns-in_err-year-clause-value : goal.returns-in_err-year-clause-value
returns-in_err-year-clause-value c =
    let failed = record_err c.args.text.now c.in_err-year.field-0.0 c.if-text-ne6.false (sym c.read_parts.ensures.value ∙ c.in_err-year.was) in
    let p = err_from_is_err_and c.from_residual.result c.from_residual.ensures.1 in
    rw (p.1, p.2) (sym failed)

pub returns-clause-value : goal.returns-clause-value
returns-clause-value c =
    let read = record_ok c.args.text.now c.in_ok-year.year c.in_ok-year.month c.in_ok-year.day c.if-text-ne6.false (sym c.read_parts.ensures.value ∙ c.in_ok-year.was) in
    c.new.ensures ∙ sym read

pub returns-clause-spelled : goal.returns-clause-spelled
returns-clause-spelled c = record_reading-spelled c.args.text.now c.new.result (returns-clause-value c)
