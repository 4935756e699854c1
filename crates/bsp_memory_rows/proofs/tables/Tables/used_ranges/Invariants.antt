use Rattle.std.proofs.Common.{◌≡◌, map, take}
use Rattle.bsp_memory_rows.specs.Lookups.{used_range}
use Rattle.bsp_memory_rows.specs.Tables.{IsDerived, rows_of}
use Rattle.bsp_memory_rows.proofs.tables.Tables.used_ranges.Given as goal

abbrev pub invariant-loop-range : goal.invariant-loop-range
invariant-loop-range l = IsDerived l.self → l.found.items ≡ map (used_range l.agent (rows_of l.self)) (take l.range-index l.ranges)
