use Rattle.bsp_maps.specs.Counts.{counted, counted_before}
use Rattle.bsp_maps.specs.Undo.{before, content}
use Rattle.bsp_maps.specs.Indexes.{members, members_before}
use Rattle.bsp_rows.specs.Rows.{item_cmp}
use Rattle.bsp_memory_tables.specs.Numbers.{number_cmp}
use Rattle.bsp_memory_tables.specs.Places.{airline_cmp}
use Rattle.bsp_memory_tables.specs.Used.{block_cmp}
use Rattle.bsp_memory_tables.proofs.PlaceOrders.{items_by_airline}
use Rattle.bsp_memory_tables.proofs.TableLemmas.{items_same}
use Rattle.bsp_memory_tables.proofs.items.ItemTable.commit.Goals as goal

pub commit-requires-3 : goal.commit-requires-3
commit-requires-3 c = items_by_airline

pub returns-clause-kept : goal.returns-clause-kept
returns-clause-kept c = items_same (content item_cmp c.args.self.now.rows) (content item_cmp c.commit.new.self) (content number_cmp c.args.self.now.by_number) (content number_cmp c.commit-2.new.self) (members airline_cmp item_cmp c.args.self.now.by_airline) (members airline_cmp item_cmp c.commit-3.new.self) (counted block_cmp c.args.self.now.used) (counted block_cmp c.commit-4.new.self)
    c.commit.ensures.content c.commit-2.ensures.content c.commit-3.ensures.members c.commit-4.ensures.counted

pub returns-clause-was_kept : goal.returns-clause-was_kept
returns-clause-was_kept c = items_same (content item_cmp c.args.self.now.rows) (before item_cmp c.commit.new.self) (content number_cmp c.args.self.now.by_number) (before number_cmp c.commit-2.new.self) (members airline_cmp item_cmp c.args.self.now.by_airline) (members_before airline_cmp item_cmp c.commit-3.new.self) (counted block_cmp c.args.self.now.used) (counted_before block_cmp c.commit-4.new.self)
    c.commit.ensures.before c.commit-2.ensures.before c.commit-3.ensures.before c.commit-4.ensures.before
