use Rattle.bsp_streams.proofs.TurnLemmas.{turns_none, turns_write}
use Rattle.bsp_streams.proofs.turn.send.Goals as goal

pub returns-then-not-is_due : goal.returns-then-not-is_due
returns-then-not-is_due g c = λ d. turns_none g.P.Peers.did g.R.Protocol.steps g.R.Protocol.talks g.R.Protocol.rests c.args.number _ _ d

pub returns : goal.returns
returns g c =
    let w = c.write.ensures in
    λ d. turns_write g.P.Peers.did g.R.Protocol.steps g.R.Protocol.talks g.R.Protocol.rests c.args.number _ _ c.write.result _ _ d w.0 w.1 w.2
