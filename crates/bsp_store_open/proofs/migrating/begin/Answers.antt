use Rattle.bsp_store_open.proofs.MigratingLemmas.{begin_spares, has_begun}
use Rattle.bsp_store_open.proofs.migrating.begin.Goals as goal

pub returns-clause-begun : goal.returns-clause-begun
returns-clause-begun g c = has_begun g.S.Store c.args.conn.now c.execute.new.self _ c.in_ok-execute.ensures.survives c.in_ok-execute.ensures.runs

pub returns-clause-spares : goal.returns-clause-spares
returns-clause-spares g c = begin_spares g.S.Store c.args.conn.now c.execute.new.self c.in_ok-execute.ensures.survives

pub returns-in_err-execute-clause-spares : goal.returns-in_err-execute-clause-spares
returns-in_err-execute-clause-spares g c = begin_spares g.S.Store c.args.conn.now c.execute.new.self c.in_err-execute.ensures.survives
