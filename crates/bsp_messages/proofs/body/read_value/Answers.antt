use Rattle.std.proofs.Common.{rules}
use Rattle.bsp_messages.proofs.BodyLemmas.{data_of-none, data_of-some}
use Rattle.bsp_messages.proofs.body.read_value.Goals as goal

pub returns-in-Ok : goal.returns-in-Ok
returns-in-Ok c = data_of-some c.args.body.now _ c.in-Ok.ensures.ok.0 c.in-Ok.ensures.ok.1

pub returns-else-is_memory : goal.returns-else-is_memory
returns-else-is_memory c = data_of-none c.args.body.now (c.in-Err.ensures.err (search rules))
