use Rattle.bsp_store_open.proofs.OpeningLemmas.{given_up, left_committed}
use Rattle.bsp_store.proofs.AuditingLemmas.{passed, refused}
use Rattle.bsp_store.proofs.audit.found_once.Goals as goal

pub returns-clause-ok : goal.returns-clause-ok
returns-clause-ok g c = λ before again.
    passed g.S.Store before c.args.conn c.audited-found.new.conn again c.into_store.result c.into_store.ensures.quiet g.X.Finding.is_of c.audited-found.result c.audited-found.ensures.ok

pub returns-clause-refused : goal.returns-clause-refused
returns-clause-refused g c = λ before again.
    refused g.S.Store before c.args.conn c.audited-found.new.conn again c.into_store.result c.into_store.ensures.quiet c.audited-found.result c.audited-found.ensures.refused

pub returns-clause-left : goal.returns-clause-left
returns-clause-left g c = λ before again.
    left_committed g.S.Store before c.args.conn again c.into_store.result (λ db is may. g.met.S.Store.settled c.args.conn.store db is may)
    (given_up g.S.Store c.args.conn c.audited-found.new.conn c.into_store.result c.audited-found.ensures.spares c.into_store.ensures.quiet)
