use Rattle.std.proofs.Common.{arith}
use Rattle.bsp_fields.proofs.ZonedLemmas.{stored}
use Rattle.bsp_fields.proofs.amount.read_amount.Goals as goal

pub invariant_of-result : goal.invariant_of-result
invariant_of-result c =
    let b = c.in_ok-units.ensures.bound in
    rw (stored c.in_ok-units.units (omega (arith, b))) (omega (arith, b))
