use Rattle.std.proofs.Common.{Some, false, sym}
use Rattle.bsp_streams.specs.declared.held.Held.{Held}
use Rattle.bsp_streams.proofs.TableLemmas.{goes_new, so_far_quiet, goes_refused, is_set}
use Rattle.bsp_streams.proofs.serving.admit.Goals as goal

pub returns-then-len-limits-clause-goes : goal.returns-then-len-limits-clause-goes
returns-then-len-limits-clause-goes g c = λ d p0 d0 waits h. h

pub returns-then-not-accept-clause-goes : goal.returns-then-not-accept-clause-goes
returns-then-not-accept-clause-goes g c = λ d p0 d0 waits h. so_far_quiet g.P.Peers.did g.R.Protocol.steps g.R.Protocol.talks g.R.Protocol.rests p0 _ _ d0 d waits c.args.table.now c.accept.ensures h

pub returns-in-Ok-clause-goes : goal.returns-in-Ok-clause-goes
returns-in-Ok-clause-goes g c =
    let held : Held g.row.R-Connection.Denot = record { connection = c.open.result; ended = false } in
    λ d. goes_new g.P.Peers.did g.R.Protocol.steps g.R.Protocol.talks g.R.Protocol.rests _ _ d c.args.table.now c.insert.new.self held c.accept.ensures c.open.ensures
    (is_set c.args.table.now.held c.insert.new.self c.args.table.now.next (Some held) c.in-Ok.ensures.updates)

pub returns-clause-goes : goal.returns-clause-goes
returns-clause-goes g c =
    λ d. goes_refused g.P.Peers.did g.R.Protocol.steps g.R.Protocol.talks g.R.Protocol.rests _ _ _ d c.args.table.now c.insert.new.self c.open.result c.accept.ensures c.close.ensures c.open.ensures (sym c.in-Err.ensures.err)
