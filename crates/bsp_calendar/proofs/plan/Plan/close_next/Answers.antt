use Rattle.std.proofs.Common.{◌≡◌, arith, refl, get_or, None, Some, true, false, rules}
use Rattle.bsp_calendar.specs.DayOrder.{is_before}
use Rattle.bsp_calendar.specs.Standing.{IsPlaceOf}
use Rattle.bsp_calendar.proofs.AnswerLemmas.{close_held, close_unknown, close_later, close_early, close_over}
use Rattle.bsp_calendar.proofs.SoundLemmas.{standing_in}
use Rattle.bsp_calendar.proofs.plan.Plan.close_next.Goals as goal

pub returns-in_default-clause-answers : goal.returns-in_default-clause-answers
returns-in_default-clause-answers c =
    let p = c.self.inside in
    let none : IsPlaceOf p.lists.periods c.args.code None = c.in_default.ensures in
    rw (← c.self.view_is) (close_unknown p.terms p.lists.airlines p.lists.rates p.lists.periods p.lists.commission_taxes p.day p.closed c.args.code (standing_in c.self.invariant) none, refl)

pub returns-then-place-self-clause-answers : goal.returns-then-place-self-clause-answers
returns-then-place-self-clause-answers c =
    let p = c.self.inside in
    let at : IsPlaceOf p.lists.periods c.args.code (Some c.in-Some.place) = c.in-Some.ensures in
    rw (← c.self.view_is) (close_held p.terms p.lists.airlines p.lists.rates p.lists.periods p.lists.commission_taxes p.day p.closed c.args.code (standing_in c.self.invariant) c.in-Some.place at c.if-place-self.true)

pub returns-then-place-self-2-clause-answers : goal.returns-then-place-self-2-clause-answers
returns-then-place-self-2-clause-answers c =
    let p = c.self.inside in
    let at : IsPlaceOf p.lists.periods c.args.code (Some c.in-Some.place) = c.in-Some.ensures in
    rw (← c.self.view_is) (close_later p.terms p.lists.airlines p.lists.rates p.lists.periods p.lists.commission_taxes p.day p.closed c.args.code (standing_in c.self.invariant) c.in-Some.place at c.if-place-self-2.true, refl)

pub returns-then-not-is_before-clause-answers : goal.returns-then-not-is_before-clause-answers
returns-then-not-is_before-clause-answers c =
    let p = c.self.inside in
    let q = c.index-list-place.result in
    let same : c.in-Some.place ≡ p.closed = omega arith in
    let at : IsPlaceOf p.lists.periods c.args.code (Some p.closed) = rw (← same) c.in-Some.ensures in
    let is : q ≡ get_or p.lists.periods p.closed q = rw (← same, ← c.list.ensures) c.index-list-place.is in
    let early : is_before q.last p.day ≡ false = search rules in
    rw (← c.self.view_is) (close_early p.terms p.lists.airlines p.lists.rates p.lists.periods p.lists.commission_taxes p.day p.closed c.args.code (standing_in c.self.invariant) q at is early, refl)

pub returns-clause-answers : goal.returns-clause-answers
returns-clause-answers c =
    let p = c.self.inside in
    let q = c.index-list-place.result in
    let same : c.in-Some.place ≡ p.closed = omega arith in
    let at : IsPlaceOf p.lists.periods c.args.code (Some p.closed) = rw (← same) c.in-Some.ensures in
    let is : q ≡ get_or p.lists.periods p.closed q = rw (← same, ← c.list.ensures) c.index-list-place.is in
    let over : is_before q.last p.day ≡ true = search rules in
    rw (← c.self.view_is) (close_over p.terms p.lists.airlines p.lists.rates p.lists.periods p.lists.commission_taxes p.day p.closed c.args.code (standing_in c.self.invariant) q at is over)
