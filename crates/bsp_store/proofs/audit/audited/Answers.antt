use Rattle.bsp_store.proofs.AuditingLemmas.{refused_later}
use Rattle.bsp_store.proofs.audit.audited.Goals as goal

pub returns-in-Err-clause-refused : goal.returns-in-Err-clause-refused
returns-in-Err-clause-refused g c =
    refused_later g.S.Store c.explained.result _ c.args.conn.now c.found.new.conn c.explained.new.conn c.explained.ensures.same c.in-Err.ensures.refused c.explained.ensures.spares
