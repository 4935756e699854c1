use Rattle.std.proofs.Common.{◌++◌}
use Rattle.bsp_calendar.proofs.KeyLemmas.{joined_periods}
use Rattle.bsp_calendar.proofs.keys.join_periods.Goals as goal

pub returns : goal.returns
returns c = joined_periods (c.args.periods.now ++ c.args.more.now) c.joined.result c.joined.ensures
