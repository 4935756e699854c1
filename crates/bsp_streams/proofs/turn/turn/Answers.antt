use Rattle.std.proofs.Common.{Some}
use Rattle.bsp_streams.proofs.TurnLemmas.{turns_asked, turns_on, turns_settled}
use Rattle.bsp_streams.proofs.turn.turn.Goals as goal

pub receive-requires : goal.receive-requires
receive-requires g c = (_, _, _, c.requires.3.0)

pub returns-in-Some : goal.returns-in-Some
returns-in-Some g c = c.in-Some.ensures c.args.desk.now

pub answer-requires : goal.answer-requires
answer-requires g c =
    let h = c.requires in
    (_, _, _, (c.in_default.ensures c.args.desk.now h.0 h.1 h.2 h.3).1.0)

pub returns-in-Some-send : goal.returns-in-Some-send
returns-in-Some-send g c =
    let asked = turns_asked g.P.Peers.did g.R.Protocol.steps g.R.Protocol.talks g.R.Protocol.rests c.args.number _ _ _ _ _ c.answer.ensures.asked in
    let last = c.send.new.held.connection in
    let result = Some c.in-Some-send.ending in
    turns_on g.P.Peers.did g.R.Protocol.steps g.R.Protocol.talks g.R.Protocol.rests c.args.number _ _ last result _ _ _ _ _ _ (c.in_default.ensures c.args.desk.now)
    (turns_on g.P.Peers.did g.R.Protocol.steps g.R.Protocol.talks g.R.Protocol.rests c.args.number _ _ last result _ _ _ _ _ _ asked (c.in-Some-send.ensures c.answer.new.desk))

pub returns : goal.returns
returns g c =
    let settled = turns_settled g.P.Peers.did g.R.Protocol.steps g.R.Protocol.talks g.R.Protocol.rests c.args.number c.send.new.held.connection c.settle.result _ _ c.answer.new.desk c.settle.ensures in
    let asked = turns_asked g.P.Peers.did g.R.Protocol.steps g.R.Protocol.talks g.R.Protocol.rests c.args.number _ _ _ _ _ c.answer.ensures.asked in
    turns_on g.P.Peers.did g.R.Protocol.steps g.R.Protocol.talks g.R.Protocol.rests c.args.number _ _ _ _ _ _ _ _ _ _ (c.in_default.ensures c.args.desk.now)
    (turns_on g.P.Peers.did g.R.Protocol.steps g.R.Protocol.talks g.R.Protocol.rests c.args.number _ _ _ _ _ _ _ _ _ _ asked
    (turns_on g.P.Peers.did g.R.Protocol.steps g.R.Protocol.talks g.R.Protocol.rests c.args.number _ _ _ _ _ _ _ _ _ _ (c.in_default-send.ensures c.answer.new.desk) settled))
