use Rattle.std.proofs.Common.{◌≡◌, ap, ◌∙◌, true}
use Rattle.bsp_routes.specs.Calls.{lists}
use Rattle.bsp_routes.specs.Resources.{methods}
use Rattle.bsp_routes.proofs.CallLemmas.{asks_call, asks_other, asks_none, one_asking}
use Rattle.bsp_routes.proofs.route.Route.asking.Goals as goal

pub returns-in-Call-clause-asked : goal.returns-in-Call-clause-asked
returns-in-Call-clause-asked c =
    let route = rw c.in-Call.is at c.requires in
    let found = c.found.result in
    let listed : lists (methods found.resource) c.args._method.now ≡ true = ap (λ r. lists (methods r) c.args._method.now) c.found.ensures.resource ∙ route.1 in
    asks_call found.resource found.first found.second c.in-Call.located.posts c.call.result c.args._method.now c.args.target.now c.found.ensures.found listed c.call.ensures route.2

pub returns-in-Call-clause-only : goal.returns-in-Call-clause-only
returns-in-Call-clause-only c = λ other h. one_asking c.args._method.now c.args.target.now _ other (returns-in-Call-clause-asked c) h

pub returns-in-OtherMethod-clause-asked : goal.returns-in-OtherMethod-clause-asked
returns-in-OtherMethod-clause-asked c =
    let route = rw c.in-OtherMethod.is at c.requires in
    asks_other route.0 route.1 route.2 c.args._method.now c.args.target.now c.in-OtherMethod.methods route.3 route.4 route.5

pub returns-in-OtherMethod-clause-only : goal.returns-in-OtherMethod-clause-only
returns-in-OtherMethod-clause-only c = λ other h. one_asking c.args._method.now c.args.target.now _ other (returns-in-OtherMethod-clause-asked c) h

pub returns-in-NoRoute-clause-asked : goal.returns-in-NoRoute-clause-asked
returns-in-NoRoute-clause-asked c = asks_none c.args._method.now c.args.target.now (rw c.in-NoRoute.is at c.requires)

pub returns-in-NoRoute-clause-only : goal.returns-in-NoRoute-clause-only
returns-in-NoRoute-clause-only c = λ other h. one_asking c.args._method.now c.args.target.now _ other (returns-in-NoRoute-clause-asked c) h
