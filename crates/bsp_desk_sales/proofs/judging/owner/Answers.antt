use Rattle.std.proofs.Common.{rules}
use Rattle.bsp_desk_sales.proofs.judging.owner.Goals as goal

pub returns-in-Agent : goal.returns-in-Agent
returns-in-Agent c = search rules
