use Rattle.bsp_rows.specs.Tallies.{tallies_of}
use Rattle.bsp_store.proofs.BookLemmas.{looked}
use Rattle.bsp_store.proofs.book.KeptBookBook.tallies.Goals as goal

pub returns : goal.returns
returns g c = looked g.L.Book.means g.C.Keeps.keeps g.C.Keeps.leaves g.met.L.InMemory.works c.args.self.now c.in_ok-working.ensures.found c.tallies.new.self c.tallies.result g.met.L.InMemory.is_right (λ found. found.items) (tallies_of c.args.which) c.tallies.ensures
