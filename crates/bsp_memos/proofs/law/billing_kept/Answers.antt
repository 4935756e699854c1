use Rattle.bsp_memos.proofs.KeptLemmas.{issue_sound, fit_kept, billed_unchanged, right_at_close, right_later, right_since_issue}
use Rattle.bsp_memos.proofs.law.billing_kept.Goals as goal

pub returns-clause-issue : goal.returns-clause-issue
returns-clause-issue c = issue_sound

pub returns-clause-fit : goal.returns-clause-fit
returns-clause-fit c = fit_kept

pub returns-clause-billed : goal.returns-clause-billed
returns-clause-billed c = billed_unchanged

pub returns-clause-at_close : goal.returns-clause-at_close
returns-clause-at_close c = right_at_close

pub returns-clause-later : goal.returns-clause-later
returns-clause-later c = right_later

pub returns-clause-since_issue : goal.returns-clause-since_issue
returns-clause-since_issue c = right_since_issue
