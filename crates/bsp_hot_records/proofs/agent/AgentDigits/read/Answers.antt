use Rattle.std.proofs.Common.{◌<◌, ◌^◌, arith}
use Rattle.bsp_hot_records.proofs.NumberLemmas.{number_in-lt}
use Rattle.bsp_hot_records.proofs.agent.AgentDigits.read.Goals as goal

pub overflow_cast-number : goal.overflow_cast-number
overflow_cast-number c =
    let small : c.in_ok-number.field-0 < 10 ^ 8 = rw c.in_ok-number.ensures.value (number_in-lt c.args.text.now 8 c.requires c.in_ok-number.ensures.fits) in
    omega arith

pub invariant_of-result : goal.invariant_of-result
invariant_of-result c = rw c.in_ok-number.ensures.value (number_in-lt c.args.text.now 8 c.requires c.in_ok-number.ensures.fits)
