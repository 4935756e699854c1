use Rattle.std.proofs.Common.{rules}
use Rattle.bsp_ret.proofs.pieces.next_line.Goals as goal

pub returns-in-Some-clause-some : goal.returns-in-Some-clause-some
returns-in-Some-clause-some c = search rules
