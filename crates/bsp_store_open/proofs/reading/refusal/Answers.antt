use Rattle.bsp_store_open.proofs.Asking.{version_spares}
use Rattle.bsp_store_open.proofs.reading.refusal.Goals as goal

pub returns-clause-asked : goal.returns-clause-asked
returns-clause-asked g c = record { found = c.query_all.result; rows = c.query_all.ensures.ok; error = c.query_all.ensures.err; answer = c.refusal_of.ensures }

pub returns-clause-spares : goal.returns-clause-spares
returns-clause-spares g c = version_spares g.S.Store c.args.conn.now c.query_all.new.self c.query_all.ensures.survives
