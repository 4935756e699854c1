use Rattle.std.proofs.Common.{Some, refl, ◌∙◌}
use Rattle.std.proofs.lemmas.Result.{IfOk-weaker, err_from_is_err_and}
use Rattle.bsp_desk_sales.proofs.LookUps.{after_look_up, call_answered, look_up_faulted, over_sound}
use Rattle.bsp_desk.proofs.StockRows.{stock_shown}
use Rattle.bsp_desk.proofs.stocks.stock.Goals as goal

pub returns-in-Ok-clause-served : goal.returns-in-Ok-clause-served
returns-in-Ok-clause-served g c = λ trust now last sound h.
    let ranges = c.deref.ensures.value ∙ c.in_ok-ranges.ensures.found trust now (Some last) h in
    ((c.in-Ok.shown, stock_shown c.args.agent now c.in-Ok.shown.items c.deref.result.now ranges c.in-Ok.ensures, refl), c.in_ok-ranges.ensures.ok now (Some last) h)

-- ---- what a fault leaves

pub returns-in-Ok-clause-fault : goal.returns-in-Ok-clause-fault
returns-in-Ok-clause-fault g c = over_sound (call_answered _ c.in_ok-ranges.ensures.fault)

pub returns-in_err-ranges-clause-served : goal.returns-in_err-ranges-clause-served
returns-in_err-ranges-clause-served g c =
    let p = err_from_is_err_and c.from_residual.result c.from_residual.ensures.1 in
    rw (p.1) tt

pub returns-in_err-ranges-clause-fault : goal.returns-in_err-ranges-clause-fault
returns-in_err-ranges-clause-fault g c =
    let p = err_from_is_err_and c.from_residual.result c.from_residual.ensures.1 in
    rw (p.1, p.2) (over_sound (look_up_faulted _ c.in_err-ranges.ensures))

pub returns-clause-served : goal.returns-clause-served
returns-clause-served g c = IfOk-weaker c.give_up.result (λ found. ⊥) _ (λ found none. absurd none) c.give_up.ensures.refused

pub returns-clause-fault : goal.returns-clause-fault
returns-clause-fault g c = over_sound (after_look_up c.in_ok-ranges.ensures c.give_up.ensures.fault)
