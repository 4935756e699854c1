use Rattle.std.proofs.Common.{map, ap, refl, rules}
use Rattle.std.specs.Prelude.{ℤ}
use Rattle.std.specs.Int.{w128}
use Rattle.std.proofs.lemmas.Int.{to_z-of_z}
use Rattle.bsp_statement.specs.declared.nets.AirlineNet.{AirlineNet}
use Rattle.bsp_statement.specs.Reports.{airline_net_of}
use Rattle.bsp_statement.proofs.PieceLemmas.{item_next, none_ahead}
use Rattle.bsp_statement.proofs.settlements.airline_nets.Goals as goal

pub loop-airline-preserved : goal.loop-airline-preserved
loop-airline-preserved c =
    let airline = c.in-Some.airline.now in
    let figures = c.in-Some.figures.now in
    item_next airline_net_of (airline, figures) _ c.loop-airline.airline-iterator c.next.new.self c.loop-airline.nets.items c.push.new.self.items (map airline_net_of c.args.sums.now.entries) c.in-Some.ensures.steps
    (ap (λ (n : ℤ). let made : AirlineNet = record { airline = airline; net = n } in made) (to_z-of_z w128 figures.net (search rules))) c.in_ok-push.ensures.items c.loop-airline.invariant

pub returns : goal.returns
returns c = none_ahead (map airline_net_of) c.loop-airline.airline-iterator c.loop-airline.nets.items (map airline_net_of c.args.sums.now.entries) refl c.in-None.ensures.steps.0 c.loop-airline.invariant
