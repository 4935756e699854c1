use Rattle.std.proofs.Common.{◌++◌}
use Rattle.bsp_calendar.proofs.KeyLemmas.{joined_airlines}
use Rattle.bsp_calendar.proofs.keys.join_airlines.Goals as goal

pub returns : goal.returns
returns c = joined_airlines (c.args.airlines.now ++ c.args.more.now) c.joined.result c.joined.ensures
