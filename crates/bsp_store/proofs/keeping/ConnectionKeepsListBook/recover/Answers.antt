use Rattle.bsp_store.proofs.CommitLemmas.{given_up}
use Rattle.bsp_store.proofs.keeping.ConnectionKeepsListBook.recover.Goals as goal

pub returns-clause-undone : goal.returns-clause-undone
returns-clause-undone g c = λ yes last now it. (it.before, it.before_of, c.recover.ensures.alive yes _ _ _ it.committed)

pub returns-clause-stop : goal.returns-clause-stop
returns-clause-stop g c = λ last now it. given_up g.S.Store c.recover.new.conn last now it.before it.after it.was_formed it.formed it.before_of it.after_of (c.recover.ensures.ended _ _ it.committed).0
