use Rattle.std.proofs.Common.{ap, ◌∙◌, Some}
use Rattle.std.specs.Prelude.{is_some}
use Rattle.std.proofs.lemmas.Result.{err_from_is_err_and}
use Rattle.bsp_desk_sales.proofs.FactLemmas.{facts_read}
use Rattle.bsp_desk_sales.proofs.LookUps.{after_look_up, call_answered, look_up_faulted}
use Rattle.bsp_desk_sales.proofs.facts.facts.Goals as goal

pub returns-clause-found : goal.returns-clause-found
returns-clause-found g c = λ trust now last sound holds.
    let t3 = c.in_ok-count.ensures.fault.trust trust in
    let t2 = c.in_ok-items.ensures.fault.trust t3 in
    let t1 = c.in_ok-ranges.ensures.fault.trust t2 in
    let h1 = c.in_ok-token.ensures.ok now (Some last) holds in
    let h2 = c.in_ok-ranges.ensures.ok now (Some last) h1 in
    let h3 = c.in_ok-items.ensures.ok now (Some last) h2 in
    let h4 = c.in_ok-count.ensures.ok now (Some last) h3 in
    let token = c.in_ok-token.ensures.found t1 now (Some last) holds in
    let ranges = c.in_ok-ranges.ensures.found t2 now (Some last) h1 in
    let items = c.in_ok-items.ensures.found t3 now (Some last) h2 in
    let count = c.in_ok-count.ensures.found trust now (Some last) h3 in
    let plan = c.plan.ensures trust now (Some last) h4 in
    (facts_read now c.args.agent c.args.transaction.now c.is_some.result _ _ _ c.facts_of-facts.result c.in_ok-count.count sound (c.is_some.ensures ∙ ap is_some token) (c.deref.ensures.value ∙ ranges) (c.deref-2.ensures.value ∙ items) plan c.facts_of-facts.ensures.value count, h4)

pub returns-clause-ok : goal.returns-clause-ok
returns-clause-ok g c = λ now begun h. c.in_ok-count.ensures.ok now begun (c.in_ok-items.ensures.ok now begun (c.in_ok-ranges.ensures.ok now begun (c.in_ok-token.ensures.ok now begun h)))

-- ---- what a fault leaves

pub returns-clause-fault : goal.returns-clause-fault
returns-clause-fault g c = after_look_up c.in_ok-token.ensures (after_look_up c.in_ok-ranges.ensures (after_look_up c.in_ok-items.ensures (call_answered _ c.in_ok-count.ensures.fault)))

pub returns-in_err-token-clause-found : goal.returns-in_err-token-clause-found
returns-in_err-token-clause-found g c =
    let p = err_from_is_err_and c.from_residual.result c.from_residual.ensures.1 in
    rw (p.1) tt

pub returns-in_err-token-clause-ok : goal.returns-in_err-token-clause-ok
returns-in_err-token-clause-ok g c =
    let p = err_from_is_err_and c.from_residual.result c.from_residual.ensures.1 in
    rw (p.1) tt

pub returns-in_err-token-clause-fault : goal.returns-in_err-token-clause-fault
returns-in_err-token-clause-fault g c =
    let p = err_from_is_err_and c.from_residual.result c.from_residual.ensures.1 in
    rw (p.1, p.2) (look_up_faulted _ c.in_err-token.ensures)

pub returns-in_err-ranges-clause-found : goal.returns-in_err-ranges-clause-found
returns-in_err-ranges-clause-found g c =
    let p = err_from_is_err_and c.from_residual-in_err-ranges.result c.from_residual-in_err-ranges.ensures.1 in
    rw (p.1) tt

pub returns-in_err-ranges-clause-ok : goal.returns-in_err-ranges-clause-ok
returns-in_err-ranges-clause-ok g c =
    let p = err_from_is_err_and c.from_residual-in_err-ranges.result c.from_residual-in_err-ranges.ensures.1 in
    rw (p.1) tt

pub returns-in_err-ranges-clause-fault : goal.returns-in_err-ranges-clause-fault
returns-in_err-ranges-clause-fault g c =
    let p = err_from_is_err_and c.from_residual-in_err-ranges.result c.from_residual-in_err-ranges.ensures.1 in
    rw (p.1, p.2) (after_look_up c.in_ok-token.ensures (look_up_faulted _ c.in_err-ranges.ensures))

pub returns-in_err-items-clause-found : goal.returns-in_err-items-clause-found
returns-in_err-items-clause-found g c =
    let p = err_from_is_err_and c.from_residual-in_err-items.result c.from_residual-in_err-items.ensures.1 in
    rw (p.1) tt

pub returns-in_err-items-clause-ok : goal.returns-in_err-items-clause-ok
returns-in_err-items-clause-ok g c =
    let p = err_from_is_err_and c.from_residual-in_err-items.result c.from_residual-in_err-items.ensures.1 in
    rw (p.1) tt

pub returns-in_err-items-clause-fault : goal.returns-in_err-items-clause-fault
returns-in_err-items-clause-fault g c =
    let p = err_from_is_err_and c.from_residual-in_err-items.result c.from_residual-in_err-items.ensures.1 in
    rw (p.1, p.2) (after_look_up c.in_ok-token.ensures (after_look_up c.in_ok-ranges.ensures (look_up_faulted _ c.in_err-items.ensures)))

pub returns-in_err-count-clause-found : goal.returns-in_err-count-clause-found
returns-in_err-count-clause-found g c =
    let p = err_from_is_err_and c.from_residual-in_err-count.result c.from_residual-in_err-count.ensures.1 in
    rw (p.1) tt

pub returns-in_err-count-clause-ok : goal.returns-in_err-count-clause-ok
returns-in_err-count-clause-ok g c =
    let p = err_from_is_err_and c.from_residual-in_err-count.result c.from_residual-in_err-count.ensures.1 in
    rw (p.1) tt

pub returns-in_err-count-clause-fault : goal.returns-in_err-count-clause-fault
returns-in_err-count-clause-fault g c =
    let p = err_from_is_err_and c.from_residual-in_err-count.result c.from_residual-in_err-count.ensures.1 in
    rw (p.1, p.2) (after_look_up c.in_ok-token.ensures (after_look_up c.in_ok-ranges.ensures (after_look_up c.in_ok-items.ensures (look_up_faulted _ c.in_err-count.ensures))))
