use Rattle.std.proofs.lemmas.Result.{err_from_is_err_and}
use Rattle.bsp_desk_sales.proofs.LookUps.{after_look_up, call_answered, call_faulted, look_up_faulted}
use Rattle.bsp_desk_sales.proofs.callers.set_airline.Goals as goal

pub returns-in_err-airline_token-clause-served : goal.returns-in_err-airline_token-clause-served
returns-in_err-airline_token-clause-served g c =
    let p = err_from_is_err_and c.from_residual.result c.from_residual.ensures.1 in
    rw (p.1) tt

pub returns-in_err-airline_token-clause-fault : goal.returns-in_err-airline_token-clause-fault
returns-in_err-airline_token-clause-fault g c =
    let p = err_from_is_err_and c.from_residual.result c.from_residual.ensures.1 in
    rw (p.1, p.2) (look_up_faulted _ c.in_err-airline_token.ensures)

pub returns-then-has_token-clause-fault : goal.returns-then-has_token-clause-fault
returns-then-has_token-clause-fault g c = call_answered _ c.in_ok-airline_token.ensures.fault

pub returns-in_err-set_airline_token-clause-served : goal.returns-in_err-set_airline_token-clause-served
returns-in_err-set_airline_token-clause-served g c =
    let p = err_from_is_err_and c.from_residual-in_err-set_airline_token.result c.from_residual-in_err-set_airline_token.ensures.1 in
    rw (p.1) tt

pub returns-in_err-set_airline_token-clause-fault : goal.returns-in_err-set_airline_token-clause-fault
returns-in_err-set_airline_token-clause-fault g c =
    let p = err_from_is_err_and c.from_residual-in_err-set_airline_token.result c.from_residual-in_err-set_airline_token.ensures.1 in
    rw (p.1, p.2) (after_look_up c.in_ok-airline_token.ensures (call_faulted _ c.in_err-set_airline_token.ensures.fault))

pub returns-clause-fault : goal.returns-clause-fault
returns-clause-fault g c = after_look_up c.in_ok-airline_token.ensures (call_answered _ c.in_ok-set_airline_token.ensures.fault)
