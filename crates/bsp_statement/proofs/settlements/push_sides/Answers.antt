use Rattle.std.proofs.Common.{string_bytes}
use Rattle.std.specs.Prelude.{codes}
use Rattle.std.proofs.lemmas.Result.{on_ok_weaker}
use Rattle.bsp_statement.proofs.PieceLemmas.{net_piece, pieces4}
use Rattle.bsp_statement.proofs.settlements.push_sides.Goals as goal

pub returns : goal.returns
returns c =
    let agents = string_bytes c.push_agents.new.out in
    let agents_total = string_bytes c.push_net.new.out in
    let airlines = string_bytes c.push_airlines.new.out in
    let airlines_total = string_bytes c.push_net-2.new.out in
    on_ok_weaker c.push_net-2.result
    (λ last. pieces4 (string_bytes c.args.out.now) _ _ _ _ agents agents_total airlines airlines_total
    c.in_ok-push_agents.ensures
    (net_piece agents agents_total (codes "TOTAL") (codes "AGENTS") c.args.total c.ranges.total c.in_ok-push_net.ensures)
    c.in_ok-push_airlines.ensures
    (net_piece airlines airlines_total (codes "TOTAL") (codes "AIRLINES") c.args.total c.ranges.total last))
    c.push_net-2.ensures
