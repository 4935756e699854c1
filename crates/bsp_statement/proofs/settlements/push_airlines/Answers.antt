use Rattle.std.proofs.Common.{◌++◌, ◌∙◌, List, ℕ, ap, rules, string_bytes}
use Rattle.std.specs.Prelude.{codes}
use Rattle.bsp_statement.specs.Texts.{airline_net_line, net_line}
use Rattle.bsp_statement.proofs.PieceLemmas.{line_all, line_more, net_piece}
use Rattle.bsp_statement.proofs.settlements.push_airlines.Goals as goal

pub loop-net-preserved : goal.loop-net-preserved
loop-net-preserved c =
    let of_airline = c.net-item.result in
    let before = string_bytes c.loop-net.out in
    let after = string_bytes c.push_net.new.out in
    line_more airline_net_line c.args.nets.now c.loop-net.net-index of_airline (string_bytes c.args.out.now) before after c.loop-net-test.true c.net-item.is c.loop-net.invariant
    (net_piece before after (codes "AIRLINE") c.as_str.result.now of_airline.net (search rules) c.in_ok-push_net.ensures
    ∙ ap (λ (name : List ℕ). before ++ net_line (codes "AIRLINE") name of_airline.net) (c.as_str.ensures.value ∙ c.in_ok-name.ensures.ok))

pub returns : goal.returns
returns c = line_all airline_net_line c.args.nets.now c.loop-net.net-index (string_bytes c.args.out.now) (string_bytes c.loop-net.out) c.loop-net-test.false c.loop-net.invariant
