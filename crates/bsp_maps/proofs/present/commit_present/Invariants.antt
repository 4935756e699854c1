use Rattle.std.proofs.Common.{◌≡◌, length}
use Rattle.bsp_maps.specs.Present.{present}
use Rattle.bsp_maps.specs.Undo.{content}
use Rattle.bsp_maps.proofs.present.commit_present.Given as goal

abbrev pub invariant-loop-old : goal.invariant-loop-old
invariant-loop-old g l = present (content g.K.Ord.cmp l.map) ≡ present (content g.K.Ord.cmp l.fn.map)

abbrev pub decreases-loop-old : goal.decreases-loop-old
decreases-loop-old g l = length l.map.undo.items
