use Rattle.bsp_book.specs.Lookups.{stock_of}
use Rattle.bsp_store.proofs.BookLemmas.{looked}
use Rattle.bsp_store.proofs.book.KeptBookBook.stock.Goals as goal

pub returns : goal.returns
returns g c = looked g.L.Book.means g.C.Keeps.keeps g.C.Keeps.leaves g.met.L.InMemory.works c.args.self.now c.in_ok-working.ensures.found c.stock.new.self c.stock.result g.met.L.InMemory.is_right (λ found. found.items) (stock_of c.args.agent) c.stock.ensures
