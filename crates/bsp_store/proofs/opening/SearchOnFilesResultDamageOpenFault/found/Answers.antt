use Rattle.bsp_store.proofs.opening.SearchOnFilesResultDamageOpenFault.found.Goals as goal

pub returns-in-Ok : goal.returns-in-Ok
returns-in-Ok g c = rw c.in-Ok.is (c.find_damage.new.conn, c.find_damage.ensures.spares)
