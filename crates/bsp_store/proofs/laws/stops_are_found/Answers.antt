use Rattle.bsp_store.proofs.StopLemmas.{openings_found, stops_found}
use Rattle.bsp_store.proofs.laws.stops_are_found.Goals as goal

pub returns : goal.returns
returns g c = record { stops = stops_found g.S.Store; openings = openings_found g.S.Store }
