use Rattle.bsp_rows.specs.Rows.{is_used_in}
use Rattle.bsp_store.proofs.BookLemmas.{looked}
use Rattle.bsp_store.proofs.book.KeptBookBook.is_range_used.Goals as goal

pub returns : goal.returns
returns g c = looked g.L.Book.means g.C.Keeps.keeps g.C.Keeps.leaves g.met.L.InMemory.works c.args.self.now c.in_ok-working.ensures.found c.is_range_used.new.self c.is_range_used.result g.met.L.InMemory.is_right (λ found. found) (is_used_in c.args.agent c.args.range) c.is_range_used.ensures
