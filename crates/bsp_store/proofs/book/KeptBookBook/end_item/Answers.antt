use Rattle.std.specs.Prelude.{⊤}
use Rattle.bsp_rows.specs.Writes.{with_end}
use Rattle.bsp_store_open.proofs.FormedContent.{end_formed}
use Rattle.bsp_store.proofs.BookLemmas.{written}
use Rattle.bsp_store.proofs.book.KeptBookBook.end_item.Goals as goal

pub returns : goal.returns
returns g c =
    written g.L.Book.means g.C.Keeps.keeps g.C.Keeps.leaves g.met.L.InMemory.works c.args.self.now c.in_ok-working.ensures.found c.end_item.new.self c.end_item.result (λ now. ⊤) (with_end c.args.key)
    (λ now may formed. end_formed now formed c.args.key) c.end_item.ensures
