use Rattle.std.proofs.Common.{rules}
use Rattle.bsp_store_base.proofs.Entries.{IsThere, memo_at, memo_key, with_memo}
use Rattle.bsp_store_open.specs.Formed.{IsFormedMemo}
use Rattle.bsp_store_open.proofs.FormedContent.{memo_formed}
use Rattle.bsp_store.proofs.BookLemmas.{written}
use Rattle.bsp_store.proofs.book.KeptBookBook.set_memo.Goals as goal

pub returns : goal.returns
returns g c =
    let own : IsFormedMemo (memo_key c.args.memo.now, c.args.memo.now) = search rules in
    written g.L.Book.means g.C.Keeps.keeps g.C.Keeps.leaves g.met.L.InMemory.works c.args.self.now c.in_ok-working.ensures.found c.set_memo.new.self c.set_memo.result (λ now. IsThere (memo_at (memo_key c.args.memo.now) now)) (with_memo c.args.memo.now)
    (λ now may formed. memo_formed now formed c.args.memo.now own) c.set_memo.ensures
