use Rattle.bsp_store_open.proofs.Asking.{version_spares}
use Rattle.bsp_store_open.proofs.version.version_in.Goals as goal

pub returns-in_err-rows-clause-spares : goal.returns-in_err-rows-clause-spares
returns-in_err-rows-clause-spares g c = version_spares g.S.Store c.args.conn.now c.query_all.new.self c.query_all.ensures.survives

pub returns-clause-spares : goal.returns-clause-spares
returns-clause-spares g c = version_spares g.S.Store c.args.conn.now c.query_all.new.self c.query_all.ensures.survives
