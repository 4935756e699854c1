use Rattle.std.proofs.Common.{None, Some}
use Rattle.bsp_calendar.specs.Standing.{IsPlaceOf}
use Rattle.bsp_calendar.proofs.AnswerLemmas.{closed_found, closed_open, closed_unknown}
use Rattle.bsp_calendar.proofs.SoundLemmas.{standing_in}
use Rattle.bsp_calendar.proofs.plan.Plan.closed_period.Goals.{in_default-via-in-Some+else-place-self, in_default-via-in_default}
use Rattle.bsp_calendar.proofs.plan.Plan.closed_period.Goals as goal

pub returns-in-Some-clause-value : goal.returns-in-Some-clause-value
returns-in-Some-clause-value c =
    let p = c.self.inside in
    let at : IsPlaceOf p.lists.periods c.args.code (Some c.in-Some.place) = c.in-Some.ensures in
    rw (← c.self.view_is) (closed_found p.lists.periods p.closed c.args.code c.in-Some.place c.index-list-place.result (standing_in c.self.invariant) at (rw (← c.list.ensures) c.index-list-place.is) c.if-place-self.true)

pub returns-in_default-clause-value : goal.returns-in_default-clause-value
returns-in_default-clause-value c =
    let p = c.self.inside in
    rw (← c.self.view_is)
    (elim c.in_default.branch [
      | in_default-via-in-Some+else-place-self w ↦
          let at : IsPlaceOf p.lists.periods c.args.code (Some w.in-Some.place) = w.in-Some.ensures in
          closed_open p.lists.periods p.closed c.args.code w.in-Some.place (standing_in c.self.invariant) at w.if-place-self.false
      | in_default-via-in_default w ↦
          let none : IsPlaceOf p.lists.periods c.args.code None = w.in_default.ensures in
          closed_unknown p.lists.periods p.closed c.args.code none
    ])
