use Rattle.std.specs.Prelude.{⊤}
use Rattle.bsp_rows.specs.Writes.{with_airline_token}
use Rattle.bsp_store_open.proofs.FormedContent.{airline_token_formed}
use Rattle.bsp_store.proofs.BookLemmas.{written}
use Rattle.bsp_store.proofs.book.KeptBookBook.set_airline_token.Goals as goal

pub returns : goal.returns
returns g c =
    written g.L.Book.means g.C.Keeps.keeps g.C.Keeps.leaves g.met.L.InMemory.works c.args.self.now c.in_ok-working.ensures.found c.set_airline_token.new.self c.set_airline_token.result (λ now. ⊤) (with_airline_token c.args.airline c.args.token)
    (λ now may formed. airline_token_formed now formed c.args.airline c.args.token c.formed_airline.ensures) c.set_airline_token.ensures
