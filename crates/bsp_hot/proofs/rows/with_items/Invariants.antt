use Rattle.std.proofs.Common.{map, take}
use Rattle.std.specs.List.{filter}
use Rattle.bsp_hot.specs.Rows.{is_reported, row_entry}
use Rattle.bsp_hot.proofs.AddedRows.{Added}
use Rattle.bsp_hot.proofs.rows.with_items.Given as goal

abbrev pub invariant-loop-item : goal.invariant-loop-item
invariant-loop-item l = Added l.initial.rows.items (map row_entry (filter (is_reported l.airline l.period) (take l.item-index l.items))) l.rows.items
