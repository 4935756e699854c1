use Rattle.std.proofs.Common.{◌≡◌, Err}
use Rattle.bsp_store.specs.Openings.{IsOpeningOf}
use Rattle.bsp_store.proofs.FilesLemmas.{answers}
use Rattle.bsp_store.proofs.on_files.book_at.Goals as goal

pub returns : goal.returns
returns g c = answers g.O.Opens.finds g.O.Opens.fails (λ conn. IsOpeningOf g.S.Store conn c.opened_book.result) (λ fault. c.opened_book.result ≡ Err fault) c.open-opened.result c.open-opened.ensures.found c.open-opened.ensures.cause c.opened_book.ensures
