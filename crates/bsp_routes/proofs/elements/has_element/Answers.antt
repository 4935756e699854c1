use Rattle.std.proofs.Common.{rules, arith, ap, sym, ◌∙◌, ◌==◌}
use Rattle.bsp_routes.proofs.ElementLemmas.{comma, other}
use Rattle.bsp_routes.proofs.elements.has_element.Goals as goal
use Rattle.bsp_routes.proofs.elements.has_element.Goals.{then-b-eq44+else-is_element, else-b-eq44}

pub loop-i-preserved : goal.loop-i-preserved
loop-i-preserved c = elim c.if-b-eq44.branch [
  | then-b-eq44+else-is_element w ↦ record {
    ordered = omega (arith, w.start-is);
    value = comma c.args.name.now c.args.text.now c.loop-i.start c.loop-i.i c.if-b-eq44.start _ c.loop-i-test.true (ap (λ n. n == 44) w.if-b-eq44.true) (sym w.is_element.ensures ∙ w.if-is_element.false) w.start-is c.loop-i.invariant.value;
  }
  | else-b-eq44 w ↦ record {
    ordered = omega (arith, w.start-is, c.loop-i.invariant.ordered);
    value = other c.args.name.now c.args.text.now c.loop-i.start c.loop-i.i c.if-b-eq44.start _ c.loop-i.invariant.ordered c.loop-i-test.true (search rules) w.start-is c.loop-i.invariant.value;
  }
]
