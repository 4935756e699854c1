use Rattle.std.proofs.Common.{rules}
use Rattle.bsp_fields.proofs.zoned.read_ending.Goals as goal

pub returns-in-74-to-82 : goal.returns-in-74-to-82
returns-in-74-to-82 c = search rules
