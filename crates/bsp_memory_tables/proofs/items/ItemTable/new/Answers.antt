use Rattle.std.specs.FinMap.{empty}
use Rattle.bsp_maps.specs.Counts.{counted, counted_before}
use Rattle.bsp_maps.specs.Undo.{before, content}
use Rattle.bsp_maps.specs.Indexes.{members, members_before}
use Rattle.bsp_rows.specs.Rows.{item_cmp}
use Rattle.bsp_memory_tables.specs.Numbers.{number_cmp}
use Rattle.bsp_memory_tables.specs.Places.{airline_cmp}
use Rattle.bsp_memory_tables.specs.Used.{block_cmp}
use Rattle.bsp_memory_tables.proofs.PlaceOrders.{items_by_airline}
use Rattle.bsp_memory_tables.proofs.TableLemmas.{items_same, no_items}
use Rattle.bsp_memory_tables.proofs.items.ItemTable.new.Goals as goal

pub new-requires-3 : goal.new-requires-3
new-requires-3 c = items_by_airline

pub returns-clause-kept : goal.returns-clause-kept
returns-clause-kept c = items_same empty (content item_cmp c.new.result) empty (content number_cmp c.new-2.result) empty (members airline_cmp item_cmp c.new-3.result) empty (counted block_cmp c.new-4.result) c.new.ensures.content c.new-2.ensures.content c.new-3.ensures.members c.new-4.ensures.counted no_items

pub returns-clause-was_kept : goal.returns-clause-was_kept
returns-clause-was_kept c = items_same empty (before item_cmp c.new.result) empty (before number_cmp c.new-2.result) empty (members_before airline_cmp item_cmp c.new-3.result) empty (counted_before block_cmp c.new-4.result) c.new.ensures.before c.new-2.ensures.before c.new-3.ensures.before c.new-4.ensures.before no_items
