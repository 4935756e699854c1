use Rattle.std.specs.Prelude.{not}
use Rattle.bsp_fields.specs.Columns.{is_wide}
use Rattle.bsp_ret.specs.Table.{is_start}
use Rattle.bsp_explain.specs.RetReasons.{record_fits}
use Rattle.bsp_explain.proofs.RowLemmas.{narrow_or, none_or}
use Rattle.bsp_explain.proofs.ret_reasons.field_fault.Goals as goal

pub returns-then-line-ne136 : goal.returns-then-line-ne136
returns-then-line-ne136 c = record {
  says = λ n. tt;
  row_two = tt;
  row_four = tt;
  none = narrow_or c.args.line.now (record_fits (is_start c.args.at.last) c.args.line.now) c.if-line-ne136.true;
}

pub returns : goal.returns
returns c = record {
  says = c.field_reason.ensures.says;
  row_two = c.field_reason.ensures.row_two;
  row_four = c.field_reason.ensures.row_four;
  none = none_or c.field_reason.result (not (is_wide c.args.line.now)) (record_fits (is_start c.args.at.last) c.args.line.now) c.field_reason.ensures.none;
}
