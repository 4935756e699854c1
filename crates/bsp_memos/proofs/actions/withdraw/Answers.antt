use Rattle.std.proofs.Common.{rules}
use Rattle.bsp_memos.proofs.actions.withdraw.Goals as goal

pub invariant_of-memo : goal.invariant_of-memo
invariant_of-memo c = search rules

pub returns-in-Open : goal.returns-in-Open
returns-in-Open c = search rules
