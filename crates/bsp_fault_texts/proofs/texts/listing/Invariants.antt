use Rattle.std.proofs.Common.{◌≡◌, take}
use Rattle.std.specs.List.{flat_map}
use Rattle.bsp_fault_texts.specs.Table.{said_in}
use Rattle.bsp_fault_texts.specs.Texts.{said_line}
use Rattle.bsp_fault_texts.proofs.texts.listing.Given as goal

abbrev pub invariant-loop-rows : goal.invariant-loop-rows
invariant-loop-rows l = l.text.items ≡ flat_map (λ part. flat_map (λ row. said_line (said_in row)) part.now) (take l.rows-index l.parts)
