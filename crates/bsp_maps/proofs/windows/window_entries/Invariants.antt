use Rattle.std.proofs.Common.{◌≡◌, ◌++◌}
use Rattle.std.specs.BTreeMap.Range.{entries_between}
use Rattle.std.specs.declared.ops.Bound.TheVariants.{Included, Unbounded}
use Rattle.bsp_maps.proofs.WindowLemmas.{front}
use Rattle.bsp_maps.proofs.windows.window_entries.Given as goal

abbrev pub invariant-loop-key : goal.invariant-loop-key
invariant-loop-key g l = l.found.items ++ front (g.W.Window.has l.window) l.key-iterator
    ≡ front (g.W.Window.has l.window) (entries_between g.K.Ord.cmp (Included (g.W.Window.low l.window)) Unbounded l.entries.entries)
