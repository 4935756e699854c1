use Rattle.bsp_store_base.proofs.Entries.{MayBeBilled, memo_at, with_billing}
use Rattle.bsp_store_open.proofs.FormedContent.{billing_formed}
use Rattle.bsp_store.proofs.BookLemmas.{written}
use Rattle.bsp_store.proofs.book.KeptBookBook.bill.Goals as goal

pub returns : goal.returns
returns g c =
    written g.L.Book.means g.C.Keeps.keeps g.C.Keeps.leaves g.met.L.InMemory.works c.args.self.now c.in_ok-working.ensures.found c.bill.new.self c.bill.result (λ now. MayBeBilled (memo_at c.args.key now)) (with_billing c.args.key c.args.period)
    (λ now may formed. billing_formed now formed c.args.key c.args.period c.formed_period.ensures) c.bill.ensures
