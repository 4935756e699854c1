use Rattle.std.proofs.Common.{map, take}
use Rattle.bsp_hot_check.specs.Hot.{items_records}
use Rattle.bsp_hot.specs.Output.{Adds}
use Rattle.bsp_hot.specs.Sorting.{written_item}
use Rattle.bsp_hot.proofs.offices.push_documents.Given as goal

abbrev pub invariant-loop-index : goal.invariant-loop-index
invariant-loop-index l = Adds l.initial.out l.out (items_records l.airline l.agent l.first (map (written_item l.initial.out.form) (take l.index l.rows)))
