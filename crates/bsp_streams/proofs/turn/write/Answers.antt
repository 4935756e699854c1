use Rattle.std.proofs.Common.{rules}
use Rattle.bsp_streams.proofs.turn.write.Goals as goal

pub returns-in-Bytes : goal.returns-in-Bytes
returns-in-Bytes c = search rules
