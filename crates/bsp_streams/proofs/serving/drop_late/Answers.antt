use Rattle.std.proofs.Common.{None, sym, ◌∙◌}
use Rattle.bsp_streams.proofs.TableLemmas.{goes_end, goes_none, is_set}
use Rattle.bsp_streams.proofs.TurnLemmas.{turns_late}
use Rattle.bsp_streams.proofs.serving.drop_late.Goals as goal

pub returns-in_default-clause-goes : goal.returns-in_default-clause-goes
returns-in_default-clause-goes g c =
    let set = is_set c.args.table.now.held c.remove.new.self c.args.number None c.remove.ensures.updates in
    λ d. goes_none g.P.Peers.did g.R.Protocol.steps g.R.Protocol.talks g.R.Protocol.rests _ d c.args.table.now c.remove.new.self c.args.number (sym c.remove.ensures.value ∙ c.in_default.is) set

pub returns-clause-goes : goal.returns-clause-goes
returns-clause-goes g c =
    let set = is_set c.args.table.now.held c.remove.new.self c.args.number None c.remove.ensures.updates in
    let held = c.in-Some.field-0 in
    λ d. goes_end g.P.Peers.did g.R.Protocol.steps g.R.Protocol.talks g.R.Protocol.rests _ _ _ _ _ c.args.table.now c.remove.new.self c.args.number held held.connection _
    (turns_late g.P.Peers.did g.R.Protocol.steps g.R.Protocol.talks g.R.Protocol.rests c.args.number held.connection _ d) c.close.ensures (sym c.remove.ensures.value ∙ c.in-Some.is) set
