use Rattle.std.proofs.Common.{rules}
use Rattle.bsp_connection.proofs.answering.respond.Goals as goal

pub returns : goal.returns
returns g c = search rules
