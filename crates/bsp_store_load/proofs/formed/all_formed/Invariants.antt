use Rattle.bsp_store_base.proofs.Std.{AllByRecursion, drop}
use Rattle.bsp_store_load.proofs.formed.all_formed.Given as goal

abbrev pub invariant-loop-at : goal.invariant-loop-at
invariant-loop-at g l = AllByRecursion g.V.Formed.is_formed (drop l.at l.values) → AllByRecursion g.V.Formed.is_formed l.values
