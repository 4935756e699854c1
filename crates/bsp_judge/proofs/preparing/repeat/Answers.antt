use Rattle.std.proofs.Common.{refl}
use Rattle.bsp_judge.specs.Asked.Task.{Close}
use Rattle.bsp_judge.proofs.UnjudgedLemmas.{if_fault, if_ok}
use Rattle.bsp_judge.proofs.preparing.repeat.Goals as goal

pub returns-in-Closed-clause-passed : goal.returns-in-Closed-clause-passed
returns-in-Closed-clause-passed c = rw c.in-Closed.is (if_ok c.change.result (λ moved. moved (Close c.in-Closed.period) refl) c.change.ensures.passed)

pub returns-in-Closed-clause-stopped : goal.returns-in-Closed-clause-stopped
returns-in-Closed-clause-stopped c = rw c.in-Closed.is (if_fault c.change.result (λ fault stop. stop (Close c.in-Closed.period) refl) c.change.ensures.stopped)
