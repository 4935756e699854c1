use Rattle.bsp_book.specs.Lookups.{items_with_number}
use Rattle.bsp_store.proofs.BookLemmas.{looked}
use Rattle.bsp_store.proofs.book.KeptBookBook.items_with_number.Goals as goal

pub returns : goal.returns
returns g c = looked g.L.Book.means g.C.Keeps.keeps g.C.Keeps.leaves g.met.L.InMemory.works c.args.self.now c.in_ok-working.ensures.found c.items_with_number.new.self c.items_with_number.result g.met.L.InMemory.is_right (λ found. found.items) (items_with_number c.args.agent c.args.number.now) c.items_with_number.ensures
