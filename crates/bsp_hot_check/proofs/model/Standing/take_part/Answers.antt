use Rattle.bsp_hot_check.proofs.SizeLemmas.{part_room}
use Rattle.bsp_hot_check.proofs.model.Standing.take_part.Goals as goal

pub count-requires-clause-more : goal.count-requires-clause-more
count-requires-clause-more c = rw c.part_sums.ensures (part_room c.args.next.part c.requires.part)
