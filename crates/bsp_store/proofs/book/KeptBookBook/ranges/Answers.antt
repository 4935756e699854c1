use Rattle.bsp_rows.specs.Rows.{ranges_of}
use Rattle.bsp_store.proofs.BookLemmas.{looked}
use Rattle.bsp_store.proofs.book.KeptBookBook.ranges.Goals as goal

pub returns : goal.returns
returns g c = looked g.L.Book.means g.C.Keeps.keeps g.C.Keeps.leaves g.met.L.InMemory.works c.args.self.now c.in_ok-working.ensures.found c.ranges-2.new.self c.ranges-2.result g.met.L.InMemory.is_right (λ found. found.items) (ranges_of c.args.agent) c.ranges-2.ensures
