use Rattle.std.proofs.Common.{Some, sym, ap, ◌∙◌}
use Rattle.bsp_hot_explain.specs.Comparisons.{is_same}
use Rattle.bsp_hot_explain.proofs.Differing.{nothing_left, passed_at, stopped_at}
use Rattle.bsp_hot_explain.proofs.comparison.first_differing.Goals as goal

pub returns-then-not-is_same : goal.returns-then-not-is_same
returns-then-not-is_same c =
    let it = c.comparison-item in
    let differs = sym (ap is_same it.is) ∙ sym c.is_same.ensures ∙ c.if-not-is_same.true in
    ap Some it.is ∙ sym (c.loop-comparison.invariant ∙ stopped_at c.args.comparisons.now c.loop-comparison.comparison-index it.result c.loop-comparison-test.true differs)

pub loop-comparison-preserved : goal.loop-comparison-preserved
loop-comparison-preserved c =
    let it = c.comparison-item in
    let same = sym (ap is_same it.is) ∙ sym c.is_same.ensures ∙ c.if-not-is_same.false in
    c.loop-comparison.invariant ∙ passed_at c.args.comparisons.now c.loop-comparison.comparison-index it.result c.loop-comparison-test.true same

pub returns : goal.returns
returns c =
    sym (c.loop-comparison.invariant ∙ nothing_left c.args.comparisons.now c.loop-comparison.comparison-index c.loop-comparison-test.false)
