use Rattle.bsp_store.proofs.FilesLemmas.{answers}
use Rattle.bsp_store.proofs.on_files.on_store.Goals as goal

pub returns : goal.returns
returns g c = answers g.O.Opens.finds g.O.Opens.fails (λ conn. g.J.OnFiles.is_found _ g.S.Store conn c.found.result) (λ fault. g.J.OnFiles.is_failed fault c.found.result) c.open-opened.result c.open-opened.ensures.found c.open-opened.ensures.cause c.found.ensures
