use Rattle.bsp_store_open.proofs.tables.load_with.Goals as goal

pub returns : goal.returns
returns g c = rw c.replace.ensures.value at c.load_taxed-loaded.ensures
