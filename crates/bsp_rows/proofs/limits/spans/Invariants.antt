use Rattle.std.proofs.Common.{◌≡◌, ◌++◌}
use Rattle.std.specs.Prelude.{map}
use Rattle.bsp_rows.specs.Audit.{span_of}
use Rattle.bsp_rows.proofs.limits.spans.Given as goal

abbrev pub invariant-loop-key : goal.invariant-loop-key
invariant-loop-key l = l.spans.items ++ map span_of l.key-iterator ≡ map span_of l.ranges.entries
