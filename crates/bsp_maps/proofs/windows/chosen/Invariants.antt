use Rattle.std.proofs.Common.{◌≡◌, ◌++◌, map}
use Rattle.std.specs.List.{filter}
use Rattle.std.specs.BTreeMap.Range.{entries_between}
use Rattle.std.specs.declared.ops.Bound.TheVariants.{Included, Unbounded}
use Rattle.bsp_maps.proofs.WindowLemmas.{front}
use Rattle.bsp_maps.proofs.windows.chosen.Given as goal

abbrev pub invariant-loop-key : goal.invariant-loop-key
invariant-loop-key g l = l.found.items ++ filter (g.T.Test.passes l.test) (map (λ e. e.1) (front (g.W.Window.has l.window) l.key-iterator))
    ≡ filter (g.T.Test.passes l.test) (map (λ e. e.1) (front (g.W.Window.has l.window) (entries_between g.K.Ord.cmp (Included (g.W.Window.low l.window)) Unbounded l.entries.entries)))
