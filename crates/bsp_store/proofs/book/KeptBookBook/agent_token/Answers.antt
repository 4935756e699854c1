use Rattle.bsp_rows.specs.Rows.{agent_token}
use Rattle.bsp_store.proofs.BookLemmas.{looked}
use Rattle.bsp_store.proofs.book.KeptBookBook.agent_token.Goals as goal

pub returns : goal.returns
returns g c = looked g.L.Book.means g.C.Keeps.keeps g.C.Keeps.leaves g.met.L.InMemory.works c.args.self.now c.in_ok-working.ensures.found c.agent_token.new.self c.agent_token.result g.met.L.InMemory.is_right (λ found. found) (agent_token c.args.agent) c.agent_token.ensures
