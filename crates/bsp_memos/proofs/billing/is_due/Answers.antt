use Rattle.std.proofs.Common.{rules}
use Rattle.bsp_memos.proofs.billing.is_due.Goals as goal

pub returns-in_default-Disputed : goal.returns-in_default-Disputed
returns-in_default-Disputed c = search rules
