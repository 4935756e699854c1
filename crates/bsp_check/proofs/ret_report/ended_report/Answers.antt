use Rattle.std.proofs.Common.{◌∙◌, refl, ap, inl, arith}
use Rattle.std.specs.Int.{w128}
use Rattle.std.proofs.lemmas.Int.{to_z-of_z, fits_signed_from_abs}
use Rattle.bsp_check.specs.RetReport.{total_text}
use Rattle.bsp_fields.specs.Lines.{lines}
use Rattle.bsp_check.proofs.RetReports.{few_records, is_file_report, refused_end}
use Rattle.bsp_check.proofs.ret_report.ended_report.Goals as goal

pub end-requires : goal.end-requires
end-requires c = omega (arith, few_records c.args.judge c.requires)

pub returns-in_ok-extend_from_slice-in-Ok : goal.returns-in_ok-extend_from_slice-in-Ok
returns-in_ok-extend_from_slice-in-Ok c = λ bytes has.
    let totals = c.in-Ok.totals in
    let sum = to_z-of_z w128 totals.sum (fits_signed_from_abs w128 totals.sum (omega (arith, c.in-Ok.ensures.small))) in
    rw c.in_ok-extend_from_slice-in-Ok.ensures.items
    (inl (refl, is_file_report bytes c.args.judge.text.items c.as_bytes.result.now has.0 c.in-Ok.totals (c.in-Ok.ensures.file (lines bytes) has.0 has.1) has.2 (c.as_bytes.ensures.value ∙ c.in_ok-line-in-Ok.ensures ∙ ap (total_text totals.records totals.transactions) sum)), refl)

pub returns-in-Err : goal.returns-in-Err
returns-in-Err c = λ bytes has.
    let at = c.state.ensures.value in
    let told = c.explain_missing-explanation.ensures in
    c.refusal_report.ensures bytes (refused_end (lines bytes) c.args.judge c.in-Err.fault c.explain_missing-explanation.result has (c.in-Err.ensures.fault (lines bytes) has.0 has.1) (rw (← at) told.number) (rw (← at) told.trailer))
