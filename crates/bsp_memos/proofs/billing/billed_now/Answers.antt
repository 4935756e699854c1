use Rattle.std.proofs.Common.{rules}
use Rattle.bsp_memos.proofs.billing.billed_now.Goals as goal

pub returns-clause-amount : goal.returns-clause-amount
returns-clause-amount c = search rules

pub returns-clause-may_be_billed : goal.returns-clause-may_be_billed
returns-clause-may_be_billed c = search rules
