use Rattle.std.proofs.Common.{sym, ap, ◌∙◌, refl}
use Rattle.std.specs.Prelude.{bytes_eq}
use Rattle.bsp_routes.specs.Calls.{lists}
use Rattle.bsp_routes.proofs.routes.Routes.find.Goals as goal

pub returns-in_default : goal.returns-in_default
returns-in_default c = c.in_default.ensures.missing refl

pub returns-then-contains : goal.returns-then-contains
returns-then-contains c =
    let found = c.in-Some.found in
    let listed = ap (λ m. lists m c.args.method.now) (sym c.methods-methods.ensures) ∙ sym c.if-contains.ensures in
    let posts = c.eq.ensures ∙ ap (bytes_eq c.args.method.now) c.as_slice.ensures in
    rw c.located.ensures ((found.first.now, found.second.now, c.in-Some.ensures.found, refl, refl), listed, posts)

pub returns-else-contains : goal.returns-else-contains
returns-else-contains c =
    let found = c.in-Some.found in (found.resource, found.first.now, found.second.now, c.in-Some.ensures.found, c.methods-methods.ensures, sym c.if-contains.ensures)
