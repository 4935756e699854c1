use Rattle.bsp_store_base.proofs.Std.{◌∙◌, ap, arith, length, length-map, length-take}
use Rattle.bsp_store_load.proofs.formed.formed_closed.Goals as goal

pub returns : goal.returns
returns c =
    let few = ap length c.meets_rules.ensures.closed_first ∙ length-map _ _ ∙ length-take _ _ in
    let all = ap length c.periods-periods.ensures in
    omega (arith, few, all)
