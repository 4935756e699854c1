use Rattle.std.proofs.lemmas.Result.{err_from_is_err_and}
use Rattle.bsp_desk_sales.proofs.LookUps.{look_up_faulted}
use Rattle.bsp_desk_sales.proofs.callers.set_agent.Goals as goal

pub returns-in_err-agent_token-clause-served : goal.returns-in_err-agent_token-clause-served
returns-in_err-agent_token-clause-served g c =
    let p = err_from_is_err_and c.from_residual.result c.from_residual.ensures.1 in
    rw (p.1) tt

pub returns-in_err-agent_token-clause-fault : goal.returns-in_err-agent_token-clause-fault
returns-in_err-agent_token-clause-fault g c =
    let p = err_from_is_err_and c.from_residual.result c.from_residual.ensures.1 in
    rw (p.1, p.2) (look_up_faulted _ c.in_err-agent_token.ensures)
