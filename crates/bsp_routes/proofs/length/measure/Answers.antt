use Rattle.bsp_routes.proofs.LengthLemmas.{measured_step, digits_step}
use Rattle.std.proofs.Common.{sym}
use Rattle.bsp_routes.proofs.length.measure.Goals as goal

pub loop-b-preserved : goal.loop-b-preserved
loop-b-preserved c = record {
  value = measured_step c.args.text.now c.loop-b.b-index c.loop-b.len c.min-len.result c.loop-b-test.true c.loop-b.invariant.value c.if-not-is_ascii_digit.ensures.bound c.min-len.ensures;
  digits = digits_step c.args.text.now c.loop-b.b-index c.loop-b-test.true c.loop-b.invariant.digits (sym c.if-not-is_ascii_digit.ensures.value);
}
