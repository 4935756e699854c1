use Rattle.std.specs.Prelude.{⊤}
use Rattle.bsp_rows.specs.Writes.{without_range}
use Rattle.bsp_store_open.proofs.FormedContent.{no_range_formed}
use Rattle.bsp_store.proofs.BookLemmas.{written}
use Rattle.bsp_store.proofs.book.KeptBookBook.withdraw_range.Goals as goal

pub returns : goal.returns
returns g c =
    written g.L.Book.means g.C.Keeps.keeps g.C.Keeps.leaves g.met.L.InMemory.works c.args.self.now c.in_ok-working.ensures.found c.withdraw_range.new.self c.withdraw_range.result (λ now. ⊤) (without_range c.args.agent c.args.range)
    (λ now may formed. no_range_formed now formed c.args.agent c.args.range) c.withdraw_range.ensures
