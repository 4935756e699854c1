use Rattle.bsp_ret.proofs.PieceLemmas.{noted_nothing}
use Rattle.bsp_ret.proofs.reader.RetReader.new.Goals as goal

pub invariant_of-result : goal.invariant_of-result
invariant_of-result c = rw c.new-2.ensures (noted_nothing c.new.result.items c.new-3.result.items c.new.ensures.items c.new-3.ensures.items)
