use Rattle.std.proofs.Common.{◌≡◌, drop}
use Rattle.bsp_hot_explain.specs.Comparisons.{first_differing}
use Rattle.bsp_hot_explain.proofs.comparison.first_differing.Given as goal

abbrev pub invariant-loop-comparison : goal.invariant-loop-comparison
invariant-loop-comparison l = first_differing l.comparisons ≡ first_differing (drop l.comparison-index l.comparisons)
