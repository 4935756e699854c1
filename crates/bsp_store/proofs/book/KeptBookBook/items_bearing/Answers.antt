use Rattle.bsp_rows.specs.Rows.{items_bearing}
use Rattle.bsp_store.proofs.BookLemmas.{looked}
use Rattle.bsp_store.proofs.book.KeptBookBook.items_bearing.Goals as goal

pub returns : goal.returns
returns g c = looked g.L.Book.means g.C.Keeps.keeps g.C.Keeps.leaves g.met.L.InMemory.works c.args.self.now c.in_ok-working.ensures.found c.items_bearing.new.self c.items_bearing.result g.met.L.InMemory.is_right (λ found. found.items) (items_bearing c.args.agent c.args.transaction.now) c.items_bearing.ensures
