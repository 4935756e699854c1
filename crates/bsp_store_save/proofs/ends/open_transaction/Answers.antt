use Rattle.bsp_store_load.specs.Content.{form}
use Rattle.bsp_store_load.proofs.Held.{begins_settled, begins_on}
use Rattle.bsp_store_save.proofs.ends.open_transaction.Goals as goal

pub returns-clause-ok : goal.returns-clause-ok
returns-clause-ok g c = begins_settled form g.S.Store c.args.conn.now c.execute.new.self (λ db is may. g.met.S.Store.settled c.execute.new.self.store db is may) c.execute.result c.execute.ensures.survives c.execute.ensures.runs

pub returns-clause-err : goal.returns-clause-err
returns-clause-err g c = (begins_on form g.S.Store c.args.conn.now c.execute.new.self c.execute.result c.execute.ensures.survives c.execute.ensures.runs).1
