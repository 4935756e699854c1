use Rattle.std.proofs.Common.{◌≡◌, Err, length, sym, ap, subst, ◌∙◌, arith}
use Rattle.bsp_fields.specs.Lines.{lines}
use Rattle.bsp_fields.proofs.RestLemmas.{lines_empty}
use Rattle.bsp_ret.specs.declared.model.Standing.{Standing}
use Rattle.bsp_ret.specs.Table.{row_fault}
use Rattle.bsp_explain.proofs.FaultLemmas.{IsJudgedTo, judged_nothing, fits_nothing, judged_more, judged_fails, judged_all}
use Rattle.bsp_explain.proofs.explanation.judge_lines.Goals as goal

pub loop-rest-init : goal.loop-rest-init
loop-rest-init c = record {
  judged = judged_nothing c.start-at.result c.args.text.now c.start-at.ensures;
  fits = fits_nothing c.start-at.result (length c.args.text.now) c.start-at.ensures;
  room = omega (arith, ap (λ (x : Standing). x.records) c.start-at.ensures);
}

pub returns-in-Err-clause-explained : goal.returns-in-Err-clause-explained
returns-in-Err-clause-explained c =
    let l = c.loop-rest in
    let at = c.step.new.self in
    let same = sym c.in-Err.ensures.same in
    let line = c.first_line.result.0.now in
    let after = c.first_line.result.1.now in
    let cut = c.first_line.ensures.cut in
    let fault = subst (λ (x : Standing). row_fault x line ≡ Err c.in-Err.code) same c.in-Err.ensures.fault in
    judged_fails at c.args.text.now l.rest.now line after c.in-Err.code c.explain_line.result
    (subst (λ (x : Standing). IsJudgedTo x c.args.text.now l.rest.now) same l.invariant.judged) cut fault
    c.explain_line.ensures.number (c.explain_line.ensures.says line (lines after, cut)) (c.explain_line.ensures.row line (lines after, cut) fault)

pub loop-rest-preserved : goal.loop-rest-preserved
loop-rest-preserved c =
    let l = c.loop-rest in
    let fits = c.in-Ok.ensures.fits in
    let shorter = c.first_line.ensures.shorter in
    record {
      judged = judged_more l.at c.step.new.self c.args.text.now l.rest.now c.first_line.result.0.now c.first_line.result.1.now l.invariant.judged c.first_line.ensures.cut c.in-Ok.ensures.row c.in-Ok.ensures.state;
      fits = record { counted = fits.counted; small = fits.small; few = omega (arith, fits.few, shorter, l.invariant.room) };
      room = omega (arith, fits.few, shorter, l.invariant.room);
    }

pub returns-clause-state : goal.returns-clause-state
returns-clause-state c =
    let l = c.loop-rest in
    (judged_all l.at c.args.text.now l.rest.now l.invariant.judged (lines_empty l.rest.now (sym c.is_empty.ensures ∙ c.loop-rest-test.false))).0

pub returns-clause-clear : goal.returns-clause-clear
returns-clause-clear c =
    let l = c.loop-rest in
    (judged_all l.at c.args.text.now l.rest.now l.invariant.judged (lines_empty l.rest.now (sym c.is_empty.ensures ∙ c.loop-rest-test.false))).1
