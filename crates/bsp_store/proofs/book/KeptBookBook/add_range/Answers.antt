use Rattle.std.proofs.Common.{subst}
use Rattle.bsp_store_base.proofs.Entries.{MayBeAdded, RangeKey, with_range}
use Rattle.bsp_store_open.specs.Forms.{IsRangeEntry}
use Rattle.bsp_store_open.proofs.FormedContent.{range_formed}
use Rattle.bsp_store.proofs.BookLemmas.{written}
use Rattle.bsp_store.proofs.book.KeptBookBook.add_range.Goals as goal

pub returns : goal.returns
returns g c =
    let own = subst (λ (k : RangeKey). IsRangeEntry (k, c.args.range.last)) c.of.ensures c.formed_range.ensures in
    written g.L.Book.means g.C.Keeps.keeps g.C.Keeps.leaves g.met.L.InMemory.works c.args.self.now c.in_ok-working.ensures.found c.add_range.new.self c.add_range.result (MayBeAdded c.args.agent c.args.range) (with_range c.args.agent c.args.range)
    (λ now may formed. range_formed now formed c.args.agent c.args.range own) c.add_range.ensures
