use Rattle.std.proofs.Common.{arith}
use Rattle.bsp_fields.proofs.TokenLemmas.{same_to_next, same_to_end}
use Rattle.bsp_fields.proofs.token.is_same.Goals as goal

pub loop-place-preserved : goal.loop-place-preserved
loop-place-preserved c =
    same_to_next c.loop-place.difference c.loop-place.place c.args.own.now c.args.other.now
    (omega (arith, c.told-own, c.loop-place-test.true)) (omega (arith, c.told-other, c.loop-place-test.true)) c.loop-place.invariant

pub returns : goal.returns
returns c =
    same_to_end c.loop-place.difference c.loop-place.place c.args.own.now c.args.other.now
    (omega (arith, c.told-own, c.loop-place-test.false)) (omega (arith, c.told-other, c.loop-place-test.false)) c.loop-place.invariant
