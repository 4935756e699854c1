use Rattle.bsp_maps.specs.Counts.{counted, counted_before}
use Rattle.bsp_maps.specs.Undo.{before, content}
use Rattle.bsp_maps.specs.Indexes.{members, members_before}
use Rattle.bsp_rows.specs.Rows.{item_cmp}
use Rattle.bsp_memory_tables.specs.Numbers.{number_cmp}
use Rattle.bsp_memory_tables.specs.Places.{airline_cmp}
use Rattle.bsp_memory_tables.specs.Used.{block_cmp}
use Rattle.bsp_memory_tables.proofs.PlaceOrders.{items_by_airline}
use Rattle.bsp_memory_tables.proofs.NumberOrder.{number_exact}
use Rattle.bsp_memory_tables.proofs.TableLemmas.{items_same}
use Rattle.bsp_memory_tables.proofs.items.ItemTable.roll_back.Goals as goal

pub roll_back-requires-2 : goal.roll_back-requires-2
roll_back-requires-2 c = number_exact

pub roll_back-requires-3 : goal.roll_back-requires-3
roll_back-requires-3 c = items_by_airline

pub returns-clause-kept : goal.returns-clause-kept
returns-clause-kept c = items_same (before item_cmp c.args.self.now.rows) (content item_cmp c.roll_back.new.self) (before number_cmp c.args.self.now.by_number) (content number_cmp c.roll_back-2.new.self) (members_before airline_cmp item_cmp c.args.self.now.by_airline) (members airline_cmp item_cmp c.roll_back-3.new.self) (counted_before block_cmp c.args.self.now.used) (counted block_cmp c.roll_back-4.new.self)
    c.roll_back.ensures.content c.roll_back-2.ensures.content c.roll_back-3.ensures.members c.roll_back-4.ensures.counted

pub returns-clause-was_kept : goal.returns-clause-was_kept
returns-clause-was_kept c = items_same (before item_cmp c.args.self.now.rows) (before item_cmp c.roll_back.new.self) (before number_cmp c.args.self.now.by_number) (before number_cmp c.roll_back-2.new.self) (members_before airline_cmp item_cmp c.args.self.now.by_airline) (members_before airline_cmp item_cmp c.roll_back-3.new.self) (counted_before block_cmp c.args.self.now.used) (counted_before block_cmp c.roll_back-4.new.self)
    c.roll_back.ensures.before c.roll_back-2.ensures.before c.roll_back-3.ensures.before c.roll_back-4.ensures.before
