use Rattle.std.proofs.Common.{refl, sym, ◌∙◌}
use Rattle.std.specs.Prelude.{◌&&◌, not}
use Rattle.bsp_fields.specs.Columns.{is_wide}
use Rattle.bsp_ret.specs.Table.{is_start}
use Rattle.bsp_explain.specs.RetReasons.{record_fits, may_be_second}
use Rattle.bsp_explain.proofs.RowLemmas.{narrow_or, second_fits, form_passed}
use Rattle.bsp_explain.proofs.ret_reasons.form_fault.Goals as goal

pub returns-then-line-ne136 : goal.returns-then-line-ne136
returns-then-line-ne136 c =
    let first = is_start c.args.at.last in
    let line = c.args.line.now in
    record { says = λ n. tt; row = tt; none = narrow_or line (record_fits first line && not (may_be_second first line)) c.if-line-ne136.true }

pub returns-then-may_be_second : goal.returns-then-may_be_second
returns-then-may_be_second c = record {
  says = λ n. second_fits (is_start c.args.at.last) c.args.line.now c.in_default.ensures.none (sym c.may_be_second.ensures ∙ c.if-may_be_second.true);
  row = refl;
  none = tt;
}

pub returns : goal.returns
returns c =
    let first = is_start c.args.at.last in
    let line = c.args.line.now in
    record { says = λ n. tt; row = tt; none = form_passed (not (is_wide line)) (record_fits first line) (may_be_second first line) c.in_default.ensures.none (sym c.may_be_second.ensures ∙ c.if-may_be_second.false) }
