use Rattle.std.proofs.Common.{rules}
use Rattle.bsp_connection.proofs.output.Output.front.Goals as goal

pub returns-in-Some : goal.returns-in-Some
returns-in-Some c = search rules
