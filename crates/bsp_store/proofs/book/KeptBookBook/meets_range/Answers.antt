use Rattle.bsp_rows.specs.Rows.{has_meeting}
use Rattle.bsp_store.proofs.BookLemmas.{looked}
use Rattle.bsp_store.proofs.book.KeptBookBook.meets_range.Goals as goal

pub returns : goal.returns
returns g c = looked g.L.Book.means g.C.Keeps.keeps g.C.Keeps.leaves g.met.L.InMemory.works c.args.self.now c.in_ok-working.ensures.found c.meets_range.new.self c.meets_range.result g.met.L.InMemory.is_right (λ found. found) (has_meeting c.args.range) c.meets_range.ensures
