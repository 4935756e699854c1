use Rattle.std.proofs.Common.{◌++◌}
use Rattle.bsp_calendar.proofs.KeyLemmas.{joined_taxes}
use Rattle.bsp_calendar.proofs.taxes.join_taxes.Goals as goal

pub returns : goal.returns
returns c = joined_taxes (c.args.taxes.now ++ c.args.more.now) c.joined.result c.joined.ensures
