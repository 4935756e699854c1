use Rattle.std.proofs.Common.{◌≡◌, ◌+◌}
use Rattle.bsp_maps.specs.Counts.{count_at, counted, counted_before, ones}
use Rattle.bsp_memory_tables.specs.declared.used.Block.{Block}
use Rattle.bsp_memory_tables.specs.Used.{block_cmp, shortened}
use Rattle.bsp_memory_tables.proofs.UsedLemmas.{is_counted_below}
use Rattle.bsp_memory_tables.proofs.used.count_number.Given as goal

abbrev pub invariant-loop-level : goal.invariant-loop-level
invariant-loop-level l = record {
  counted : (block : Block) → count_at (counted block_cmp l.counts) block ≡ count_at (counted block_cmp l.fn.counts) block + ones (is_counted_below l.key l.level block);
  place : l.place ≡ shortened l.level l.key.number;
  before : counted_before block_cmp l.counts ≡ counted_before block_cmp l.fn.counts;
}
