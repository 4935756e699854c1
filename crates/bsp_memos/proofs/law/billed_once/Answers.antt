use Rattle.bsp_memos.proofs.LawLemmas.{issue_kept, billed_once_holds, not_billed_in_dispute, not_billed_withdrawn, credit_billed_first}
use Rattle.bsp_memos.proofs.law.billed_once.Goals as goal

pub returns-clause-issue : goal.returns-clause-issue
returns-clause-issue c = issue_kept

pub returns-clause-first_close : goal.returns-clause-first_close
returns-clause-first_close c = billed_once_holds

pub returns-clause-disputed : goal.returns-clause-disputed
returns-clause-disputed c = not_billed_in_dispute

pub returns-clause-withdrawn : goal.returns-clause-withdrawn
returns-clause-withdrawn c = not_billed_withdrawn

pub returns-clause-credit : goal.returns-clause-credit
returns-clause-credit c = credit_billed_first
