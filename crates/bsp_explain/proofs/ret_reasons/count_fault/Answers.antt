use Rattle.std.proofs.Common.{sym, ◌∙◌}
use Rattle.std.specs.Prelude.{not, ◌||◌}
use Rattle.bsp_fields.specs.Columns.{is_wide}
use Rattle.bsp_ret_records.specs.Records.{trailer_fits}
use Rattle.bsp_ret.specs.Table.{has_counts}
use Rattle.bsp_explain.proofs.RowLemmas.{narrow_or-two, unfit_or, none_or}
use Rattle.bsp_explain.proofs.ret_reasons.count_fault.Goals as goal

pub returns-then-line-ne136 : goal.returns-then-line-ne136
returns-then-line-ne136 c =
    let line = c.args.line.now in
    record { says = tt; row = tt; none = narrow_or-two line (not (trailer_fits line)) (has_counts c.args.at line) c.if-line-ne136.true }

pub returns-then-not-trailer_fits : goal.returns-then-not-trailer_fits
returns-then-not-trailer_fits c =
    let line = c.args.line.now in
    record { says = tt; row = tt; none = unfit_or (not (is_wide line)) (has_counts c.args.at line) (trailer_fits line) (sym c.trailer_fits.ensures ∙ c.if-not-trailer_fits.true) }

pub returns : goal.returns
returns c =
    let line = c.args.line.now in
    record { says = c.count_reason.ensures.says; row = c.count_reason.ensures.row; none = none_or c.count_reason.result (not (is_wide line) || not (trailer_fits line)) (has_counts c.args.at line) c.count_reason.ensures.none }
