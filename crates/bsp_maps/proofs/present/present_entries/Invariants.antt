use Rattle.std.proofs.Common.{◌≡◌}
use Rattle.std.specs.FinMap.{empty, from_entries}
use Rattle.bsp_maps.proofs.PresentLemmas.{with_present}
use Rattle.bsp_maps.proofs.present.present_entries.Given as goal

abbrev pub invariant-loop-key : goal.invariant-loop-key
invariant-loop-key g l = with_present {R = g.K.Ord.cmp} l.key-iterator (from_entries l.found.entries) ≡ with_present {R = g.K.Ord.cmp} l.entries.entries empty
