use Rattle.std.proofs.Common.{◌≡◌, map, take}
use Rattle.std.specs.List.{filter}
use Rattle.bsp_calendar.specs.DayOrder.{is_up_to}
use Rattle.bsp_judge.proofs.stating.codes_until.Given as goal

abbrev pub invariant-loop-period : goal.invariant-loop-period
invariant-loop-period l = l.codes.items ≡ map (λ q. q.code) (filter (λ q. is_up_to q.last l.last) (take l.period-index l.periods))
