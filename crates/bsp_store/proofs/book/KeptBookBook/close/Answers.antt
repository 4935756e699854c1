use Rattle.std.proofs.Common.{◌<◌, ◌^◌, length, subst}
use Rattle.std.specs.Prelude.{Some}
use Rattle.bsp_store_base.proofs.Entries.{after_request, Close, Published, request_answer}
use Rattle.bsp_store_open.proofs.FormedContent.{close_formed, plan_formed}
use Rattle.bsp_store.proofs.BookLemmas.{answered}
use Rattle.bsp_store.proofs.book.KeptBookBook.close.Goals as goal

pub returns : goal.returns
returns g c =
    let after = after_request (Close c.args.code) in
    answered g.L.Book.means g.C.Keeps.keeps g.C.Keeps.leaves g.met.L.InMemory.works c.args.self.now c.in_ok-list.ensures.found c.close-answer.new.self c.close-answer.result g.met.L.InMemory.is_right (request_answer (Close c.args.code)) after
    (λ now last held formed.
    let few = subst (λ (p : Published). length p.closed < 2 ^ 63) (c.plan.ensures (g.met.L.InMemory.is_right _) (after now) (Some last) held) c.formed_closed.ensures in
    plan_formed now formed (after now).published (close_formed now.published formed.plan c.args.code few)) c.close-answer.ensures
