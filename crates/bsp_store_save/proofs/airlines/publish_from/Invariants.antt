use Rattle.bsp_store_base.proofs.Std.{from_entries, take}
use Rattle.bsp_store_save.specs.Calls.{Changes}
use Rattle.bsp_store_save.proofs.AirlineSteps.{has_airlines, with_airlines}
use Rattle.bsp_store_save.proofs.airlines.publish_from.Given as goal

abbrev pub invariant-loop-at : goal.invariant-loop-at
invariant-loop-at g l = Changes g.S.Store l.fn.conn l.conn (has_airlines (take l.from l.published) (from_entries l.tokens.entries)) (with_airlines (take l.at l.published) (from_entries l.tokens.entries))
