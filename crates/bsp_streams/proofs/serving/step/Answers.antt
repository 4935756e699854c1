use Rattle.std.proofs.Common.{sym}
use Rattle.std.proofs.lemmas.Bool.{false≢true}
use Rattle.bsp_streams.proofs.TableLemmas.{so_far_waited}
use Rattle.bsp_streams.proofs.serving.step.Goals as goal

pub attend-requires : goal.attend-requires
attend-requires g c =
    let h = c.requires in
    (h.0, h.1, _, so_far_waited g.P.Peers.did g.R.Protocol.steps g.R.Protocol.talks g.R.Protocol.rests h.0 _ _ h.1 _ h.2 c.args.table.now c.next.result c.next.ensures h.3)

pub returns-in-Nothing-clause-steps : goal.returns-in-Nothing-clause-steps
returns-in-Nothing-clause-steps g c = (c.next.result, λ p0 d0 waits h. so_far_waited g.P.Peers.did g.R.Protocol.steps g.R.Protocol.talks g.R.Protocol.rests p0 _ _ d0 _ waits c.args.table.now c.next.result c.next.ensures h, λ stops. absurd (false≢true (sym stops)))

pub returns-in-Arrival-clause-steps : goal.returns-in-Arrival-clause-steps
returns-in-Arrival-clause-steps g c = (c.next.result, λ p0 d0 waits h. c.admit.ensures.goes _ p0 d0 _ (so_far_waited g.P.Peers.did g.R.Protocol.steps g.R.Protocol.talks g.R.Protocol.rests p0 _ _ d0 _ waits c.args.table.now c.next.result c.next.ensures h), λ stops. absurd (false≢true (sym stops)))

pub returns-in-Ready-clause-steps : goal.returns-in-Ready-clause-steps
returns-in-Ready-clause-steps g c = (c.next.result, λ p0 d0 waits h. c.attend.ensures.goes p0 d0 _ (so_far_waited g.P.Peers.did g.R.Protocol.steps g.R.Protocol.talks g.R.Protocol.rests p0 _ _ d0 _ waits c.args.table.now c.next.result c.next.ensures h), λ stops. absurd (false≢true (sym stops)))

pub returns-in-Late-clause-steps : goal.returns-in-Late-clause-steps
returns-in-Late-clause-steps g c = (c.next.result, λ p0 d0 waits h. c.drop_late.ensures.goes _ p0 d0 _ (so_far_waited g.P.Peers.did g.R.Protocol.steps g.R.Protocol.talks g.R.Protocol.rests p0 _ _ d0 _ waits c.args.table.now c.next.result c.next.ensures h), λ stops. absurd (false≢true (sym stops)))

pub returns-in-Stop-clause-steps : goal.returns-in-Stop-clause-steps
returns-in-Stop-clause-steps g c = (c.next.result, λ p0 d0 waits h. so_far_waited g.P.Peers.did g.R.Protocol.steps g.R.Protocol.talks g.R.Protocol.rests p0 _ _ d0 _ waits c.args.table.now c.next.result c.next.ensures h, λ stops. c.in-Stop.is)
