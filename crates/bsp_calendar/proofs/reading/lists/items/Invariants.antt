use Rattle.std.proofs.Common.{◌≡◌, Some, take}
use Rattle.toml.specs.View.{items_view}
use Rattle.bsp_calendar.specs.PlanDocument.{each}
use Rattle.bsp_calendar.proofs.reading.lists.items.Given as goal

abbrev pub invariant-loop-value : goal.invariant-loop-value
invariant-loop-value g l = each g.F.Form.form (items_view (take l.value-index l.list.items)) ≡ Some l.items.items
