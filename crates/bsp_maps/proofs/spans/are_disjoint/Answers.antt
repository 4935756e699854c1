use Rattle.std.proofs.lemmas.List.Sorted.{IsPermutation-sym}
use Rattle.bsp_maps.proofs.SpanLemmas.{decided}
use Rattle.bsp_maps.proofs.spans.are_disjoint.Goals as goal

pub returns : goal.returns
returns c = decided c.args.spans.now c.sort_unstable.new.self c.are_apart.result c.sort_unstable.ensures.permutation (IsPermutation-sym _ _ c.sort_unstable.ensures.permutation) c.sort_unstable.ensures.sorted c.are_apart.ensures
