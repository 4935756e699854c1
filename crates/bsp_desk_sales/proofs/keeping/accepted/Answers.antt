use Rattle.std.proofs.Common.{rules}
use Rattle.bsp_desk_sales.proofs.keeping.accepted.Goals as goal

pub returns-in-Accepted : goal.returns-in-Accepted
returns-in-Accepted c = search rules
