use Rattle.bsp_routes.specs.Resources.{form}
use Rattle.bsp_routes.proofs.Places.{first_part, second_part}
use Rattle.bsp_routes.proofs.route.Located.found.Goals as goal

pub returns-clause-found : goal.returns-clause-found
returns-clause-found c =
    let at = c.requires in
    let f = form c.args.self.resource in
    rw (c.bytes_before.ensures, at.3, at.4, first_part f at.0 at.1 c.args.target.now at.2.1, second_part f at.0 at.1 c.args.target.now at.2.1) at.2
