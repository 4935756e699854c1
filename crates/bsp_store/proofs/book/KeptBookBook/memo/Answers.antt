use Rattle.bsp_rows.specs.Rows.{memo_at}
use Rattle.bsp_store.proofs.BookLemmas.{looked}
use Rattle.bsp_store.proofs.book.KeptBookBook.memo.Goals as goal

pub returns : goal.returns
returns g c = looked g.L.Book.means g.C.Keeps.keeps g.C.Keeps.leaves g.met.L.InMemory.works c.args.self.now c.in_ok-working.ensures.found c.memo.new.self c.memo.result g.met.L.InMemory.is_right (λ found. found) (memo_at c.args.key) c.memo.ensures
