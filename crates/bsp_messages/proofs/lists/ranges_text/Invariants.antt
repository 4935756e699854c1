use Rattle.std.proofs.Common.{◌≡◌, ◌++◌, codes, false, map, take}
use Rattle.bsp_messages.specs.Answers.{range_object}
use Rattle.bsp_messages.proofs.TextLemmas.{items_so_far}
use Rattle.bsp_messages.proofs.lists.ranges_text.Given as goal

abbrev pub invariant-loop-index : goal.invariant-loop-index
invariant-loop-index l = l.text.items ≡ codes "{\"ranges\":[" ++ items_so_far false (map range_object (take l.index l.ranges))
