use Rattle.std.proofs.Common.{None, Some}
use Rattle.bsp_calendar.specs.Standing.{IsPlaceOf}
use Rattle.bsp_calendar.proofs.AnswerLemmas.{period_found, period_unknown}
use Rattle.bsp_calendar.proofs.SoundLemmas.{standing_in}
use Rattle.bsp_calendar.proofs.plan.Plan.period.Goals as goal

pub returns-in_err-place : goal.returns-in_err-place
returns-in_err-place c =
    let p = c.self.inside in
    let none : IsPlaceOf p.lists.periods c.args.code None = c.in_err-place.ensures in
    rw (← c.self.view_is, c.from_residual.ensures) (period_unknown p.lists.periods p.closed c.args.code none)

pub returns : goal.returns
returns c =
    let p = c.self.inside in
    let at : IsPlaceOf p.lists.periods c.args.code (Some c.in_ok-place.place) = c.in_ok-place.ensures in
    rw (← c.self.view_is) (period_found p.lists.periods p.closed c.args.code c.in_ok-place.place c.index-list-place.result (standing_in c.self.invariant) at (rw (← c.list.ensures) c.index-list-place.is))
