use Rattle.bsp_store_open.proofs.LoadedLemmas.{shows_none}
use Rattle.bsp_store_open.proofs.OpeningLemmas.{after, given}
use Rattle.bsp_store_open.proofs.tables.kept_tables.Goals as goal

pub returns-in-Ok : goal.returns-in-Ok
returns-in-Ok g c =
    given c.load_all-loaded.result c.unless_fault.result c.load_all-loaded.new.tables c.unless_fault.ensures (after c.in-Ok.ensures c.load_all-loaded.ensures)
    (λ done it. it.1 it.0) (λ done trees it. it.1 c.in-Ok.ensures.holds it.0)
    (λ fault trees it. shows_none trees _ it.0 fault (it.1.0, it.1.1 c.in-Ok.ensures.holds it.0))
