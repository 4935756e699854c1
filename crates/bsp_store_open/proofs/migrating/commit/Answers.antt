use Rattle.bsp_store_open.proofs.MigratingLemmas.{has_ended, may_end}
use Rattle.bsp_store_open.proofs.migrating.commit.Goals as goal

pub returns-clause-ended : goal.returns-clause-ended
returns-clause-ended g c = has_ended g.S.Store c.args.conn.now c.execute.new.self _ c.in_ok-execute.ensures.survives c.in_ok-execute.ensures.runs

pub returns-clause-stop : goal.returns-clause-stop
returns-clause-stop g c = may_end g.S.Store c.args.conn.now c.execute.new.self c.in_ok-execute.ensures.survives

pub returns-in_err-execute-clause-stop : goal.returns-in_err-execute-clause-stop
returns-in_err-execute-clause-stop g c = may_end g.S.Store c.args.conn.now c.execute.new.self c.in_err-execute.ensures.survives
