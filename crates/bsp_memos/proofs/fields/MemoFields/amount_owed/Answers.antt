use Rattle.std.proofs.Common.{rules}
use Rattle.bsp_memos.proofs.fields.MemoFields.amount_owed.Goals as goal

pub returns-in-Ok : goal.returns-in-Ok
returns-in-Ok c = search rules
