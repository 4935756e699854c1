use Rattle.std.proofs.Common.{rules}
use Rattle.bsp_ret.proofs.records.Records.put_related.Goals as goal

pub returns-in-Some : goal.returns-in-Some
returns-in-Some c = search rules
