use Rattle.std.proofs.Common.{◌≡◌, ◌<◌, ◌≤◌}
use Rattle.std.specs.FinMap.{FinMap}
use Rattle.bsp_maps.specs.Counts.{counted}
use Rattle.bsp_rows.specs.Item.{Item}
use Rattle.bsp_rows.specs.Rows.{item_cmp}
use Rattle.bsp_memory_tables.specs.Used.{AreUsedCounted, agent_numbers, block_cmp, count_once, is_between}
use Rattle.bsp_memory_tables.proofs.used.count_places.Given as goal

abbrev pub invariant-loop-place : goal.invariant-loop-place
invariant-loop-place l = record {
  counted : (items : FinMap item_cmp Item) → AreUsedCounted items (counted block_cmp l.counts) → l.level < 5 → l.count ≡ count_once (is_between l.level l.from l.place) (agent_numbers l.agent items);
  behind : l.from ≤ l.place;
  up : l.place ≤ l.to;
}
