use Rattle.bsp_rows.specs.Rows.{items_of}
use Rattle.bsp_store.proofs.BookLemmas.{looked}
use Rattle.bsp_store.proofs.book.KeptBookBook.items.Goals as goal

pub returns : goal.returns
returns g c = looked g.L.Book.means g.C.Keeps.keeps g.C.Keeps.leaves g.met.L.InMemory.works c.args.self.now c.in_ok-working.ensures.found c.items.new.self c.items.result g.met.L.InMemory.is_right (λ found. found.items) (items_of c.args.which) c.items.ensures
