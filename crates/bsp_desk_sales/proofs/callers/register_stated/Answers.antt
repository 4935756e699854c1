use Rattle.std.proofs.Common.{rules}
use Rattle.bsp_desk_sales.proofs.callers.register_stated.Goals as goal

pub returns-in-Some-clause-served : goal.returns-in-Some-clause-served
returns-in-Some-clause-served c = search rules
