use Rattle.bsp_store.specs.Files.{IsJustOpened}
use Rattle.bsp_store.proofs.OpeningLemmas.{opening_of}
use Rattle.bsp_store.proofs.opening.opened_book.Goals as goal

pub opened-requires : goal.opened-requires
opened-requires g c =
    let it : IsJustOpened g.S.Store c.in-Ok.conn = rw c.in-Ok.is at c.requires in
    record { outside = it.reopens.fresh.autocommit; ordered = it.ordered }

pub returns-in-Ok : goal.returns-in-Ok
returns-in-Ok g c =
    let it : IsJustOpened g.S.Store c.in-Ok.conn = rw c.in-Ok.is at c.requires in
    rw c.in-Ok.is (record { whole = c.opened.result; opening = opening_of g.S.Store c.in-Ok.conn c.opened.result (c.opened.ensures c.in-Ok.conn it.reopens); same = c.without_store.ensures })
