use Rattle.std.proofs.Common.{refl}
use Rattle.bsp_store_columns.specs.Airlines.{airline_entries}
use Rattle.bsp_store_load.proofs.airline_map.airlines_of.Goals as goal

pub returns : goal.returns
unfolding airline_entries
returns c = rw (c.in_ok-put_published.ensures, c.in_ok-airlines.ensures, c.map-tokens.ensures, c.airline_tokens.ensures, c.airlines.ensures, c.plan.ensures) refl
