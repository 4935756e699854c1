use Rattle.bsp_rows.specs.Tallies.{tally_of}
use Rattle.bsp_store.proofs.BookLemmas.{looked}
use Rattle.bsp_store.proofs.book.KeptBookBook.tally.Goals as goal

pub returns : goal.returns
returns g c = looked g.L.Book.means g.C.Keeps.keeps g.C.Keeps.leaves g.met.L.InMemory.works c.args.self.now c.in_ok-working.ensures.found c.tally.new.self c.tally.result g.met.L.InMemory.is_right (λ found. found) (tally_of c.args.key) c.tally.ensures
