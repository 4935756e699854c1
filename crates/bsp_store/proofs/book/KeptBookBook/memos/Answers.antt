use Rattle.bsp_rows.specs.Rows.{memos_of}
use Rattle.bsp_store.proofs.BookLemmas.{looked}
use Rattle.bsp_store.proofs.book.KeptBookBook.memos.Goals as goal

pub returns : goal.returns
returns g c = looked g.L.Book.means g.C.Keeps.keeps g.C.Keeps.leaves g.met.L.InMemory.works c.args.self.now c.in_ok-working.ensures.found c.memos.new.self c.memos.result g.met.L.InMemory.is_right (λ found. found.items) (memos_of c.args.which) c.memos.ensures
