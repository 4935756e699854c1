use Rattle.std.proofs.Common.{None, inr}
use Rattle.bsp_store.proofs.audit.found_at.Goals as goal

pub returns-in-Err : goal.returns-in-Err
returns-in-Err g c = inr (c.in-Err.ensures.0, record { left = None; unopened = λ _. c.in-Err.ensures.1; cause = tt }, c.in-Err.ensures.2)
