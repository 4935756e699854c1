use Rattle.bsp_store_base.proofs.Entries.{IsFree, item_at, key_of, with_item}
use Rattle.bsp_store_open.proofs.FormedContent.{item_formed}
use Rattle.bsp_store.proofs.BookLemmas.{written}
use Rattle.bsp_store.proofs.book.KeptBookBook.add_item.Goals as goal

pub returns : goal.returns
returns g c =
    written g.L.Book.means g.C.Keeps.keeps g.C.Keeps.leaves g.met.L.InMemory.works c.args.self.now c.in_ok-working.ensures.found c.add_item.new.self c.add_item.result (λ now. IsFree (item_at (key_of c.args.item.now) now)) (with_item c.args.item.now)
    (λ now may formed. item_formed now formed c.args.item.now c.formed_under_key.ensures) c.add_item.ensures
