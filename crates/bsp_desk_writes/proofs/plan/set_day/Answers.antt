use Rattle.bsp_desk_writes.proofs.plan.set_day.Goals as goal

pub returns-in-Ok-clause-served : goal.returns-in-Ok-clause-served
returns-in-Ok-clause-served g c = rw c.in-Ok.ensures c.set_business_day.ensures.served
