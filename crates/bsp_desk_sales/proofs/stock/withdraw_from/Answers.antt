use Rattle.std.proofs.Common.{rules}
use Rattle.std.proofs.Common.{true, false, Some, refl, sym, ◌∙◌}
use Rattle.std.proofs.lemmas.Result.{err_from_is_err_and}
use Rattle.bsp_rows.specs.Rows.{Rows}
use Rattle.bsp_desk_sales.proofs.LookUps.{after_look_up, call_answered, look_up_faulted, over_sound}
use Rattle.bsp_desk_sales.proofs.RangeLemmas.{withdraw_said}
use Rattle.bsp_desk_sales.proofs.stock.withdraw_from.Goals as goal

-- ---- what is answered

pub returns-then-not-branch-clause-served : goal.returns-then-not-branch-clause-served
returns-then-not-branch-clause-served g c = λ t now last s h.
    let known = c.in_ok-is_registered.ensures in
    let P : Rows → Type 0 = λ rows. g.B.Book.means.holds c.is_registered.new.book rows (Some last) in
    withdraw_said P now c.args.agent c.args.range c.requires false _ (sym (known.found t now (Some last) h) ∙ c.if-not-branch.true) refl _ c.refused.result refl c.refused.ensures (known.ok now (Some last) h)

pub returns-then-not-branch-2-clause-served : goal.returns-then-not-branch-2-clause-served
returns-then-not-branch-2-clause-served g c = λ t now last s h.
    let known = c.in_ok-is_registered.ensures in
    let held = c.in_ok-has_range.ensures in
    let t_known = held.fault.trust t in
    let at_known = known.ok now (Some last) h in
    let P : Rows → Type 0 = λ rows. g.B.Book.means.holds c.has_range.new.book rows (Some last) in
    withdraw_said P now c.args.agent c.args.range c.requires true false
    (sym (known.found t_known now (Some last) h) ∙ c.if-not-branch.false)
    (sym (held.found t now (Some last) at_known) ∙ c.if-not-branch-2.true)
    _ c.refused-then-not-branch-2.result refl c.refused-then-not-branch-2.ensures (held.ok now (Some last) at_known)

-- ---- what a fault leaves

pub returns-then-not-branch-clause-fault : goal.returns-then-not-branch-clause-fault
returns-then-not-branch-clause-fault g c = over_sound (call_answered _ c.in_ok-is_registered.ensures.fault)

pub returns-then-not-branch-2-clause-fault : goal.returns-then-not-branch-2-clause-fault
returns-then-not-branch-2-clause-fault g c = over_sound (after_look_up c.in_ok-is_registered.ensures (call_answered _ c.in_ok-has_range.ensures.fault))

pub returns-in_err-is_registered-clause-served : goal.returns-in_err-is_registered-clause-served
returns-in_err-is_registered-clause-served g c =
    let p = err_from_is_err_and c.from_residual.result c.from_residual.ensures.1 in
    rw (p.1) tt

pub returns-in_err-is_registered-clause-fault : goal.returns-in_err-is_registered-clause-fault
returns-in_err-is_registered-clause-fault g c =
    let p = err_from_is_err_and c.from_residual.result c.from_residual.ensures.1 in
    rw (p.1, p.2) (over_sound (look_up_faulted _ c.in_err-is_registered.ensures))

pub returns-in_err-has_range-clause-served : goal.returns-in_err-has_range-clause-served
returns-in_err-has_range-clause-served g c =
    let p = err_from_is_err_and c.from_residual-in_err-has_range.result c.from_residual-in_err-has_range.ensures.1 in
    rw (p.1) tt

pub returns-in_err-has_range-clause-fault : goal.returns-in_err-has_range-clause-fault
returns-in_err-has_range-clause-fault g c =
    let p = err_from_is_err_and c.from_residual-in_err-has_range.result c.from_residual-in_err-has_range.ensures.1 in
    rw (p.1, p.2) (over_sound (after_look_up c.in_ok-is_registered.ensures (look_up_faulted _ c.in_err-has_range.ensures)))

pub returns-in_err-is_range_used-clause-served : goal.returns-in_err-is_range_used-clause-served
returns-in_err-is_range_used-clause-served g c =
    let p = err_from_is_err_and c.from_residual-in_err-is_range_used.result c.from_residual-in_err-is_range_used.ensures.1 in
    rw (p.1) tt

pub returns-in_err-is_range_used-clause-fault : goal.returns-in_err-is_range_used-clause-fault
returns-in_err-is_range_used-clause-fault g c =
    let p = err_from_is_err_and c.from_residual-in_err-is_range_used.result c.from_residual-in_err-is_range_used.ensures.1 in
    rw (p.1, p.2) (over_sound (after_look_up c.in_ok-is_registered.ensures (after_look_up c.in_ok-has_range.ensures (look_up_faulted _ c.in_err-is_range_used.ensures))))

pub returns-clause-served : goal.returns-clause-served
returns-clause-served c = search rules
