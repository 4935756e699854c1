use Rattle.std.proofs.Common.{ap, ◌∙◌}
use Rattle.std.specs.FinMap.{empty}
use Rattle.std.specs.Ordering.{nat_cmp}
use Rattle.bsp_maps.specs.Present.{present}
use Rattle.bsp_maps.proofs.PresentLemmas.{no_present}
use Rattle.bsp_maps.specs.Undo.{before, content}
use Rattle.bsp_maps.specs.Indexes.{members, members_before}
use Rattle.bsp_maps.proofs.IndexLemmas.{index_same, nothing_indexed}
use Rattle.bsp_rows.specs.Rows.{range_cmp}
use Rattle.bsp_rows.proofs.KeyOrders.{range_exact, range_total}
use Rattle.bsp_memory_tables.specs.Places.{last_place}
use Rattle.bsp_memory_tables.proofs.PlaceOrders.{ranges_by_last}
use Rattle.bsp_memory_tables.proofs.ranges.RangeTable.new.Goals as goal

pub new-requires-2 : goal.new-requires-2
new-requires-2 c = ranges_by_last

pub returns-clause-rows : goal.returns-clause-rows
returns-clause-rows c = ap present c.new.ensures.content ∙ no_present range_cmp range_total range_exact

pub returns-clause-before : goal.returns-clause-before
returns-clause-before c = ap present c.new.ensures.before ∙ no_present range_cmp range_total range_exact

pub returns-clause-kept : goal.returns-clause-kept
returns-clause-kept c = index_same nat_cmp range_cmp last_place empty (present (content range_cmp c.new.result)) empty (members nat_cmp range_cmp c.new-2.result)
    (ap present c.new.ensures.content ∙ no_present range_cmp range_total range_exact) c.new-2.ensures.members (nothing_indexed nat_cmp range_cmp last_place)

pub returns-clause-was_kept : goal.returns-clause-was_kept
returns-clause-was_kept c = index_same nat_cmp range_cmp last_place empty (present (before range_cmp c.new.result)) empty (members_before nat_cmp range_cmp c.new-2.result)
    (ap present c.new.ensures.before ∙ no_present range_cmp range_total range_exact) c.new-2.ensures.before (nothing_indexed nat_cmp range_cmp last_place)
