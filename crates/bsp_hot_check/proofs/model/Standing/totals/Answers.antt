use Rattle.std.proofs.Common.{rules}
use Rattle.bsp_hot_check.proofs.model.Standing.totals.Goals as goal

pub returns : goal.returns
returns c = search rules
