use Rattle.std.proofs.Common.{◌∙◌}
use Rattle.bsp_calendar.proofs.KeyLemmas.{airline_found}
use Rattle.bsp_calendar.proofs.keys.has_airline.Goals as goal

pub returns : goal.returns
returns c = c.is_some.ensures ∙ airline_found c.args.airlines.now c.args.airline c.place_of.result c.place_of.ensures
