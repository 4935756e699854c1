use Rattle.std.proofs.Common.{◌++◌}
use Rattle.bsp_calendar.proofs.KeyLemmas.{joined_rates}
use Rattle.bsp_calendar.proofs.keys.join_rates.Goals as goal

pub returns : goal.returns
returns c = joined_rates (c.args.rates.now ++ c.args.more.now) c.joined.result c.joined.ensures
