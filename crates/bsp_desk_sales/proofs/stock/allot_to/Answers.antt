use Rattle.std.proofs.Common.{true, false, Some, refl, sym, ◌∙◌}
use Rattle.std.proofs.lemmas.Result.{err_from_is_err_and}
use Rattle.bsp_rows.specs.Rows.{Rows}
use Rattle.bsp_desk_sales.proofs.LookUps.{after_look_up, call_answered, call_faulted, look_up_faulted, over_sound}
use Rattle.bsp_desk_sales.proofs.RangeLemmas.{allot_said, free_key, in_order}
use Rattle.bsp_desk_sales.proofs.stock.allot_to.Goals as goal

-- ---- what is answered

pub returns-then-not-branch-clause-served : goal.returns-then-not-branch-clause-served
returns-then-not-branch-clause-served g c = λ t now last s h.
    let known = c.in_ok-is_registered.ensures in
    let P : Rows → Type 0 = λ rows. g.B.Book.means.holds c.is_registered.new.book rows (Some last) in
    allot_said P now c.args.agent c.args.range c.requires false _ (sym (known.found t now (Some last) h) ∙ c.if-not-branch.true) refl _ c.refused.result refl c.refused.ensures (known.ok now (Some last) h)

pub returns-then-branch-clause-served : goal.returns-then-branch-clause-served
returns-then-branch-clause-served g c = λ t now last s h.
    let known = c.in_ok-is_registered.ensures in
    let held = c.in_ok-has_range.ensures in
    let t_known = held.fault.trust t in
    let at_known = known.ok now (Some last) h in
    let P : Rows → Type 0 = λ rows. g.B.Book.means.holds c.has_range.new.book rows (Some last) in
    allot_said P now c.args.agent c.args.range c.requires true true
    (sym (known.found t_known now (Some last) h) ∙ c.if-not-branch.false)
    (sym (held.found t now (Some last) at_known) ∙ c.if-branch.true)
    _ _ refl refl (held.ok now (Some last) at_known)

pub returns-then-branch-2-clause-served : goal.returns-then-branch-2-clause-served
returns-then-branch-2-clause-served g c = λ t now last s h.
    let known = c.in_ok-is_registered.ensures in
    let held = c.in_ok-has_range.ensures in
    let met = c.in_ok-meets_range.ensures in
    let t_held = met.fault.trust t in
    let t_known = held.fault.trust t_held in
    let at_known = known.ok now (Some last) h in
    let at_held = held.ok now (Some last) at_known in
    let P : Rows → Type 0 = λ rows. g.B.Book.means.holds c.meets_range.new.self rows (Some last) in
    allot_said P now c.args.agent c.args.range c.requires true false
    (sym (known.found t_known now (Some last) h) ∙ c.if-not-branch.false)
    (sym (held.found t_held now (Some last) at_known) ∙ c.if-branch.false)
    true c.refused-then-branch-2.result
    (sym (met.found t now (Some last) at_held) ∙ c.if-branch-2.true)
    c.refused-then-branch-2.ensures (met.ok now (Some last) at_held)

pub returns-clause-served : goal.returns-clause-served
returns-clause-served g c = λ t now last s h.
    let agent = c.args.agent in
    let range = c.args.range in
    let known = c.in_ok-is_registered.ensures in
    let held = c.in_ok-has_range.ensures in
    let met = c.in_ok-meets_range.ensures in
    let added = c.in_ok-add_range.ensures in
    let t_met = added.fault.trust t in
    let t_held = met.fault.trust t_met in
    let t_known = held.fault.trust t_held in
    let at_known = known.ok now (Some last) h in
    let at_held = held.ok now (Some last) at_known in
    let at_met = met.ok now (Some last) at_held in
    let apart = sym (met.found t_met now (Some last) at_held) ∙ c.if-branch-2.false in
    let P : Rows → Type 0 = λ rows. g.B.Book.means.holds c.add_range.new.self rows (Some last) in
    allot_said P now agent range c.requires true false
    (sym (known.found t_known now (Some last) h) ∙ c.if-not-branch.false)
    (sym (held.found t_held now (Some last) at_known) ∙ c.if-branch.false)
    false _ apart refl
    (added.ok now last (record { free = free_key now agent range s (in_order range c.requires) apart; numbers = in_order range c.requires; apart = apart }) at_met)

-- ---- what a fault leaves

pub returns-then-not-branch-clause-fault : goal.returns-then-not-branch-clause-fault
returns-then-not-branch-clause-fault g c = over_sound (call_answered _ c.in_ok-is_registered.ensures.fault)

pub returns-then-branch-clause-fault : goal.returns-then-branch-clause-fault
returns-then-branch-clause-fault g c = over_sound (after_look_up c.in_ok-is_registered.ensures (call_answered _ c.in_ok-has_range.ensures.fault))

pub returns-then-branch-2-clause-fault : goal.returns-then-branch-2-clause-fault
returns-then-branch-2-clause-fault g c = over_sound (after_look_up c.in_ok-is_registered.ensures (after_look_up c.in_ok-has_range.ensures (call_answered _ c.in_ok-meets_range.ensures.fault)))

pub returns-clause-fault : goal.returns-clause-fault
returns-clause-fault g c =
    over_sound (after_look_up c.in_ok-is_registered.ensures (after_look_up c.in_ok-has_range.ensures (after_look_up c.in_ok-meets_range.ensures (call_answered _ c.in_ok-add_range.ensures.fault))))

pub returns-in_err-is_registered-clause-served : goal.returns-in_err-is_registered-clause-served
returns-in_err-is_registered-clause-served g c =
    let p = err_from_is_err_and c.from_residual.result c.from_residual.ensures.1 in
    rw (p.1) tt

pub returns-in_err-is_registered-clause-fault : goal.returns-in_err-is_registered-clause-fault
returns-in_err-is_registered-clause-fault g c =
    let p = err_from_is_err_and c.from_residual.result c.from_residual.ensures.1 in
    rw (p.1, p.2) (over_sound (look_up_faulted _ c.in_err-is_registered.ensures))

pub returns-in_err-has_range-clause-served : goal.returns-in_err-has_range-clause-served
returns-in_err-has_range-clause-served g c =
    let p = err_from_is_err_and c.from_residual-in_err-has_range.result c.from_residual-in_err-has_range.ensures.1 in
    rw (p.1) tt

pub returns-in_err-has_range-clause-fault : goal.returns-in_err-has_range-clause-fault
returns-in_err-has_range-clause-fault g c =
    let p = err_from_is_err_and c.from_residual-in_err-has_range.result c.from_residual-in_err-has_range.ensures.1 in
    rw (p.1, p.2) (over_sound (after_look_up c.in_ok-is_registered.ensures (look_up_faulted _ c.in_err-has_range.ensures)))

pub returns-in_err-meets_range-clause-served : goal.returns-in_err-meets_range-clause-served
returns-in_err-meets_range-clause-served g c =
    let p = err_from_is_err_and c.from_residual-in_err-meets_range.result c.from_residual-in_err-meets_range.ensures.1 in
    rw (p.1) tt

pub returns-in_err-meets_range-clause-fault : goal.returns-in_err-meets_range-clause-fault
returns-in_err-meets_range-clause-fault g c =
    let p = err_from_is_err_and c.from_residual-in_err-meets_range.result c.from_residual-in_err-meets_range.ensures.1 in
    rw (p.1, p.2) (over_sound (after_look_up c.in_ok-is_registered.ensures (after_look_up c.in_ok-has_range.ensures (look_up_faulted _ c.in_err-meets_range.ensures))))

pub returns-in_err-add_range-clause-served : goal.returns-in_err-add_range-clause-served
returns-in_err-add_range-clause-served g c =
    let p = err_from_is_err_and c.from_residual-in_err-add_range.result c.from_residual-in_err-add_range.ensures.1 in
    rw (p.1) tt

pub returns-in_err-add_range-clause-fault : goal.returns-in_err-add_range-clause-fault
returns-in_err-add_range-clause-fault g c =
    let p = err_from_is_err_and c.from_residual-in_err-add_range.result c.from_residual-in_err-add_range.ensures.1 in
    rw (p.1, p.2) (over_sound (after_look_up c.in_ok-is_registered.ensures (after_look_up c.in_ok-has_range.ensures (after_look_up c.in_ok-meets_range.ensures (call_faulted _ c.in_err-add_range.ensures.fault)))))
