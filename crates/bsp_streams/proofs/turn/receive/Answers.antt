use Rattle.bsp_streams.proofs.TurnLemmas.{turns_none, turns_read}
use Rattle.bsp_streams.proofs.turn.receive.Goals as goal

pub returns-then-not-wants_bytes : goal.returns-then-not-wants_bytes
returns-then-not-wants_bytes g c = λ d. turns_none g.P.Peers.did g.R.Protocol.steps g.R.Protocol.talks g.R.Protocol.rests c.args.number _ _ d

pub returns : goal.returns
returns g c =
    let r = c.read.ensures in
    λ d. turns_read g.P.Peers.did g.R.Protocol.steps g.R.Protocol.talks g.R.Protocol.rests c.args.number _ _ c.read.result _ _ d r.0 r.1 r.2
