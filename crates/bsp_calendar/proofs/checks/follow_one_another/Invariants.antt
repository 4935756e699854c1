use Rattle.std.proofs.Common.{◌≡◌, drop}
use Rattle.bsp_calendar.specs.Requests.{follow_one_another}
use Rattle.bsp_calendar.proofs.FollowLemmas.{follow_after}
use Rattle.bsp_calendar.proofs.checks.follow_one_another.Given as goal

abbrev pub invariant-loop-period : goal.invariant-loop-period
invariant-loop-period l = follow_after l.ended (drop l.period-index l.periods) ≡ follow_one_another l.periods
