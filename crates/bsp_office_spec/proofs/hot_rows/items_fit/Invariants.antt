use Rattle.std.proofs.Common.{take}
use Rattle.std.specs.List.{All}
use Rattle.bsp_office_spec.specs.HotRules.{IsTypedItem}
use Rattle.bsp_office_spec.proofs.hot_rows.items_fit.Given as goal

abbrev pub invariant-loop-item : goal.invariant-loop-item
invariant-loop-item l = All IsTypedItem (take l.item-index l.items)
