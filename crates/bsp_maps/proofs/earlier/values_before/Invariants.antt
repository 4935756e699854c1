use Rattle.std.proofs.Common.{length, ◌-◌}
use Rattle.std.specs.Prelude.{drop}
use Rattle.std.specs.FinMap.{from_entries}
use Rattle.bsp_maps.specs.Undo.{IsEarlier, undone}
use Rattle.bsp_maps.proofs.earlier.values_before.Given as goal

abbrev pub invariant-loop-step : goal.invariant-loop-step
invariant-loop-step g l = IsEarlier (from_entries {R = g.K.Ord.cmp} l.found.entries) (from_entries l.values.entries) (undone (drop (length l.written - l.step) l.written) (from_entries l.values.entries))
