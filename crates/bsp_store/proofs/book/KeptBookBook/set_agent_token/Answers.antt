use Rattle.std.specs.Prelude.{⊤}
use Rattle.bsp_rows.specs.Writes.{with_agent_token}
use Rattle.bsp_store_open.proofs.FormedContent.{agent_formed}
use Rattle.bsp_store.proofs.BookLemmas.{written}
use Rattle.bsp_store.proofs.book.KeptBookBook.set_agent_token.Goals as goal

pub returns : goal.returns
returns g c =
    written g.L.Book.means g.C.Keeps.keeps g.C.Keeps.leaves g.met.L.InMemory.works c.args.self.now c.in_ok-working.ensures.found c.set_agent_token.new.self c.set_agent_token.result (λ now. ⊤) (with_agent_token c.args.agent c.args.token)
    (λ now may formed. agent_formed now formed c.args.agent c.args.token c.formed_agent.ensures) c.set_agent_token.ensures
