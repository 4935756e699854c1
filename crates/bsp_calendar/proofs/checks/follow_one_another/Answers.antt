use Rattle.std.proofs.Common.{sym, ◌∙◌}
use Rattle.bsp_calendar.proofs.FollowLemmas.{follow_not}
use Rattle.bsp_calendar.proofs.checks.follow_one_another.Goals as goal

pub returns-then-not-is_next_day : goal.returns-then-not-is_next_day
returns-then-not-is_next_day c =
    let i = c.loop-period.period-index in
    sym (follow_not c.in-Some.day c.args.periods.now i c.period-item.result c.loop-period-test.true c.period-item.is (sym c.if-not-is_next_day.ensures))
    ∙ (rw c.in-Some.is at c.loop-period.invariant)
