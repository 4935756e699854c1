use Rattle.bsp_store.proofs.CommitLemmas.{saved, stopped}
use Rattle.bsp_store.proofs.keeping.ConnectionKeepsListBook.save.Goals as goal

pub returns-clause-ok : goal.returns-clause-ok
returns-clause-ok g c = saved g.S.Store c.args.book.now c.args.self.now c.save.new.conn c.tables.result.now c.tables.ensures c.save.result c.save.ensures.ok

pub returns-clause-err : goal.returns-clause-err
returns-clause-err g c = stopped g.S.Store c.args.book.now c.args.self.now c.save.new.conn c.tables.result.now c.tables.ensures c.save.result c.save.ensures.err
