use Rattle.bsp_store_base.proofs.Entries.{after_request, request_answer, SetDay}
use Rattle.bsp_store_open.proofs.FormedContent.{day_formed, plan_formed}
use Rattle.bsp_store.proofs.BookLemmas.{answered}
use Rattle.bsp_store.proofs.book.KeptBookBook.set_day.Goals as goal

pub returns : goal.returns
returns g c =
    answered g.L.Book.means g.C.Keeps.keeps g.C.Keeps.leaves g.met.L.InMemory.works c.args.self.now c.in_ok-working.ensures.found c.set_day.new.self c.set_day.result g.met.L.InMemory.is_right (request_answer (SetDay c.args.day)) (after_request (SetDay c.args.day))
    (λ now last held formed. plan_formed now formed _ (day_formed now.published formed.plan c.args.day c.formed_day.ensures)) c.set_day.ensures
