use Rattle.bsp_explain.proofs.RowLemmas.{narrow_not}
use Rattle.bsp_explain.proofs.ret_reasons.place_fault.Goals as goal

pub returns-then-line-ne136 : goal.returns-then-line-ne136
returns-then-line-ne136 c = record {
  says = λ n. tt;
  row = tt;
  none = narrow_not c.args.line.now c.if-line-ne136.true;
}

pub returns : goal.returns
returns c = record { says = c.place_reason.ensures.says; row = c.place_reason.ensures.row; none = tt }
