use Rattle.std.proofs.Common.{ap}
use Rattle.std.specs.Ordering.{nat_cmp}
use Rattle.bsp_maps.specs.Present.{present}
use Rattle.bsp_maps.specs.Undo.{before, content}
use Rattle.bsp_maps.specs.Indexes.{members, members_before}
use Rattle.bsp_maps.proofs.IndexLemmas.{index_same}
use Rattle.bsp_rows.specs.Rows.{range_cmp}
use Rattle.bsp_memory_tables.specs.Places.{last_place}
use Rattle.bsp_memory_tables.proofs.PlaceOrders.{ranges_by_last}
use Rattle.bsp_memory_tables.proofs.ranges.RangeTable.roll_back.Goals as goal

pub roll_back-requires-2 : goal.roll_back-requires-2
roll_back-requires-2 c = ranges_by_last

pub returns-clause-rows : goal.returns-clause-rows
returns-clause-rows c = ap present c.roll_back.ensures.content

pub returns-clause-before : goal.returns-clause-before
returns-clause-before c = ap present c.roll_back.ensures.before

pub returns-clause-kept : goal.returns-clause-kept
returns-clause-kept c = index_same nat_cmp range_cmp last_place (present (before range_cmp c.args.self.now.rows)) (present (content range_cmp c.roll_back.new.self)) (members_before nat_cmp range_cmp c.args.self.now.by_last) (members nat_cmp range_cmp c.roll_back-2.new.self)
    (ap present c.roll_back.ensures.content) c.roll_back-2.ensures.members

pub returns-clause-was_kept : goal.returns-clause-was_kept
returns-clause-was_kept c = index_same nat_cmp range_cmp last_place (present (before range_cmp c.args.self.now.rows)) (present (before range_cmp c.roll_back.new.self)) (members_before nat_cmp range_cmp c.args.self.now.by_last) (members_before nat_cmp range_cmp c.roll_back-2.new.self)
    (ap present c.roll_back.ensures.before) c.roll_back-2.ensures.before
