use Rattle.std.proofs.Common.{◌≡◌, map, take}
use Rattle.bsp_desk.specs.Stock.{shown_as}
use Rattle.bsp_desk.proofs.stocks.shown_stock.Given as goal

abbrev pub invariant-loop-range : goal.invariant-loop-range
invariant-loop-range l = l.shown.items ≡ map shown_as (take l.range-index l.ranges)
