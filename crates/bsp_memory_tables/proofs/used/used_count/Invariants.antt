use Rattle.std.proofs.Common.{◌≡◌, ◌+◌, ◌≤◌}
use Rattle.std.specs.FinMap.{FinMap}
use Rattle.bsp_maps.specs.Counts.{counted}
use Rattle.bsp_rows.specs.Item.{Item}
use Rattle.bsp_rows.specs.Rows.{item_cmp}
use Rattle.bsp_memory_tables.specs.Used.{AreUsedCounted, agent_numbers, block_cmp, count_once, is_between, used_count}
use Rattle.bsp_memory_tables.proofs.used.used_count.Given as goal

abbrev pub invariant-loop-level : goal.invariant-loop-level
invariant-loop-level l = record {
  counted : (items : FinMap item_cmp Item) → AreUsedCounted items (counted block_cmp l.counts) → l.count + count_once (is_between l.level l.from l.to) (agent_numbers l.agent items) ≡ used_count l.agent l.range items;
  order : l.from ≤ l.to;
}
