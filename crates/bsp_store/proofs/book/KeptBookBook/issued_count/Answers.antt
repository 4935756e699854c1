use Rattle.bsp_rows.specs.Laws.{issued_count}
use Rattle.bsp_store.proofs.BookLemmas.{looked}
use Rattle.bsp_store.proofs.book.KeptBookBook.issued_count.Goals as goal

pub returns : goal.returns
returns g c = looked g.L.Book.means g.C.Keeps.keeps g.C.Keeps.leaves g.met.L.InMemory.works c.args.self.now c.in_ok-working.ensures.found c.issued_count.new.self c.issued_count.result g.met.L.InMemory.is_right (λ found. found) (issued_count c.args.agent c.args.airline) c.issued_count.ensures
