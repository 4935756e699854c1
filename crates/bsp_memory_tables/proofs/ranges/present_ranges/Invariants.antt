use Rattle.std.proofs.Common.{◌≡◌, ◌++◌}
use Rattle.std.specs.Prelude.{drop}
use Rattle.bsp_memory_tables.specs.RangeTables.{present_ranges}
use Rattle.bsp_memory_tables.proofs.ranges.present_ranges.Given as goal

abbrev pub invariant-loop-key : goal.invariant-loop-key
invariant-loop-key l = l.found.items ++ present_ranges (drop l.key-index l.entries) ≡ present_ranges l.entries
