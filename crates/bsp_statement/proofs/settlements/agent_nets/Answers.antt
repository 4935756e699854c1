use Rattle.std.proofs.Common.{map, ap, refl, rules}
use Rattle.std.specs.Prelude.{ℤ}
use Rattle.std.specs.Int.{w128}
use Rattle.std.proofs.lemmas.Int.{to_z-of_z}
use Rattle.bsp_statement.specs.declared.nets.AgentNet.{AgentNet}
use Rattle.bsp_statement.specs.Reports.{agent_net_of}
use Rattle.bsp_statement.proofs.PieceLemmas.{item_next, none_ahead}
use Rattle.bsp_statement.proofs.settlements.agent_nets.Goals as goal

pub loop-agent-preserved : goal.loop-agent-preserved
loop-agent-preserved c =
    let agent = c.in-Some.agent.now in
    let figures = c.in-Some.figures.now in
    item_next agent_net_of (agent, figures) _ c.loop-agent.agent-iterator c.next.new.self c.loop-agent.nets.items c.push.new.self.items (map agent_net_of c.args.sums.now.entries) c.in-Some.ensures.steps
    (ap (λ (n : ℤ). let made : AgentNet = record { agent = agent; net = n } in made) (to_z-of_z w128 figures.net (search rules))) c.in_ok-push.ensures.items c.loop-agent.invariant

pub returns : goal.returns
returns c = none_ahead (map agent_net_of) c.loop-agent.agent-iterator c.loop-agent.nets.items (map agent_net_of c.args.sums.now.entries) refl c.in-None.ensures.steps.0 c.loop-agent.invariant
