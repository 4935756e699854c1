use Rattle.std.proofs.Common.{ℕ, List, refl, subst}
use Rattle.bsp_routes.specs.Matches.{values_in, AreFirstTwo}
use Rattle.bsp_routes.proofs.found.matched.Goals as goal

pub returns-in-Ok : goal.returns-in-Ok
returns-in-Ok c =
    let params = c.in-Ok.found.params in
    let two = subst (λ (path : List ℕ). AreFirstTwo (values_in c.in-Ok.found.params.pattern.now c.in-Ok.found.params.text.now c.in-Ok.found.params.names.now path) c.first_two.result.0.now c.first_two.result.1.now) c.in-Ok.ensures.path c.first_two.ensures in
    (record { pattern = params.pattern.now; text = params.text.now; names = params.names.now; value = c.in-Ok.found.value.now }, c.in-Ok.ensures.found, refl, two)
