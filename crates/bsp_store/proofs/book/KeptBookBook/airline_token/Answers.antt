use Rattle.bsp_rows.specs.Rows.{airline_token}
use Rattle.bsp_store.proofs.BookLemmas.{looked}
use Rattle.bsp_store.proofs.book.KeptBookBook.airline_token.Goals as goal

pub returns : goal.returns
returns g c = looked g.L.Book.means g.C.Keeps.keeps g.C.Keeps.leaves g.met.L.InMemory.works c.args.self.now c.in_ok-working.ensures.found c.airline_token.new.self c.airline_token.result g.met.L.InMemory.is_right (λ found. found) (airline_token c.args.airline) c.airline_token.ensures
