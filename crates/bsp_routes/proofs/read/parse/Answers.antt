use Rattle.std.proofs.Common.{rules, inr, refl}
use Rattle.bsp_routes.proofs.HeadLemmas.{not_whole}
use Rattle.bsp_routes.proofs.read.parse.Goals as goal

pub returns-else-head-text-clause-err : goal.returns-else-head-text-clause-err
returns-else-head-text-clause-err c =
    let at = c.in-Ok.ensures.complete in
    λ room. inr (refl, search rules, not_whole c.args.text.now c.in-Ok.head.len at.0 at.1.reads at.1.len c.if-head-text.false)
