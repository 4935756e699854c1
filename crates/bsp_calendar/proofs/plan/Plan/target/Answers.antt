use Rattle.std.proofs.Common.{◌≡◌, ℕ, ◌≤◌, ◌<◌, get_or, length, subst, sym}
use Rattle.std.specs.Prelude.{Option, IfSome}
use Rattle.bsp_calendar.specs.Published.{IsTarget}
use Rattle.bsp_calendar.specs.Standing.{IsFirstNotOver}
use Rattle.bsp_calendar.proofs.PeriodLemmas.{AreApart, partitioned}
use Rattle.bsp_calendar.proofs.TargetLemmas.{in_target}
use Rattle.bsp_calendar.proofs.AnswerLemmas.{target_begun, target_not_begun, target_missing}
use Rattle.bsp_calendar.proofs.SoundLemmas.{standing_in}
use Rattle.bsp_calendar.proofs.plan.Plan.target.Goals as goal

pub first_not_over-requires : goal.first_not_over-requires
first_not_over-requires c = rw c.list-periods.ensures (partitioned c.self.inside.lists.periods c.self.inside.closed c.args.issued (standing_in c.self.invariant))

pub returns-in_err-period-clause-value : goal.returns-in_err-period-clause-value
returns-in_err-period-clause-value c =
    let p = c.self.inside in
    let first : IsFirstNotOver c.args.issued p.lists.periods c.first_not_over.result = rw (← c.list-periods.ensures) c.first_not_over.ensures in
    let past : length p.lists.periods ≤ c.max-place.result = rw (← c.list-periods.ensures) c.in_err-period.ensures.lookup.3 in
    rw (← c.self.view_is, c.from_residual.ensures)
    (target_missing p.lists.periods p.closed c.first_not_over.result c.max-place.result p.day c.args.issued (standing_in c.self.invariant) first c.max-place.ensures past)

pub returns-then-is_up_to-clause-value : goal.returns-then-is_up_to-clause-value
returns-then-is_up_to-clause-value c =
    let p = c.self.inside in
    let q = c.in_ok-period.period.now in
    let first : IsFirstNotOver c.args.issued p.lists.periods c.first_not_over.result = rw (← c.list-periods.ensures) c.first_not_over.ensures in
    let within : c.max-place.result < length p.lists.periods = rw (← c.list-periods.ensures) c.in_ok-period.ensures.lookup.3.0 in
    let at : q ≡ get_or p.lists.periods c.max-place.result q = rw (← c.list-periods.ensures) (c.in_ok-period.ensures.lookup.3.1 q) in
    rw (← c.self.view_is)
    (target_begun p.lists.periods p.closed c.first_not_over.result c.max-place.result p.day c.args.issued q (standing_in c.self.invariant) first c.max-place.ensures within at (sym c.if-is_up_to.ensures))

pub returns-then-is_up_to-clause-is_target : goal.returns-then-is_up_to-clause-is_target
returns-then-is_up_to-clause-is_target c =
    let p = c.args.self.now in
    let apart : AreApart p.periods = rw (← c.self.view_is) c.self.invariant.sound.periods in
    subst (λ (code : Option ℕ). IfSome code (IsTarget p c.args.issued)) (sym (returns-then-is_up_to-clause-value c)) (in_target p c.args.issued apart)

pub returns-else-is_up_to-clause-value : goal.returns-else-is_up_to-clause-value
returns-else-is_up_to-clause-value c =
    let p = c.self.inside in
    let q = c.in_ok-period.period.now in
    let first : IsFirstNotOver c.args.issued p.lists.periods c.first_not_over.result = rw (← c.list-periods.ensures) c.first_not_over.ensures in
    let within : c.max-place.result < length p.lists.periods = rw (← c.list-periods.ensures) c.in_ok-period.ensures.lookup.3.0 in
    let at : q ≡ get_or p.lists.periods c.max-place.result q = rw (← c.list-periods.ensures) (c.in_ok-period.ensures.lookup.3.1 q) in
    rw (← c.self.view_is)
    (target_not_begun p.lists.periods p.closed c.first_not_over.result c.max-place.result p.day c.args.issued q (standing_in c.self.invariant) first c.max-place.ensures within at (sym c.if-is_up_to.ensures))
