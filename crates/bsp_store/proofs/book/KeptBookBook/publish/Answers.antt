use Rattle.std.proofs.Common.{subst}
use Rattle.std.specs.Prelude.{Some}
use Rattle.bsp_store_base.proofs.Entries.{after_request, Publish, request_answer}
use Rattle.bsp_store_open.specs.Formed.{IsFormedPublished}
use Rattle.bsp_store_open.proofs.FormedContent.{plan_formed}
use Rattle.bsp_store.proofs.BookLemmas.{answered}
use Rattle.bsp_store.proofs.book.KeptBookBook.publish.Goals as goal

pub returns : goal.returns
returns g c =
    let after = after_request (Publish c.args.text.now) in
    answered g.L.Book.means g.C.Keeps.keeps g.C.Keeps.leaves g.met.L.InMemory.works c.args.self.now c.in_ok-list.ensures.found c.publish-answer.new.self c.publish-answer.result g.met.L.InMemory.is_right (request_answer (Publish c.args.text.now)) after
    (λ now last held formed. plan_formed now formed (after now).published (subst IsFormedPublished (c.plan.ensures (g.met.L.InMemory.is_right _) (after now) (Some last) held) c.formed_plan.ensures)) c.publish-answer.ensures
