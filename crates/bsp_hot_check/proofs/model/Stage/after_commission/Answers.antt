use Rattle.std.proofs.Common.{rules}
use Rattle.bsp_hot_check.proofs.model.Stage.after_commission.Goals as goal

pub returns-in-Two : goal.returns-in-Two
returns-in-Two c = search rules
