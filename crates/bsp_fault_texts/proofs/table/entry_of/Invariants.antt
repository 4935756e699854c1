use Rattle.std.proofs.Common.{◌≡◌, drop, map}
use Rattle.std.specs.List.{find, flat_map}
use Rattle.std.specs.Str.{bytes_eq}
use Rattle.bsp_fault_texts.specs.Table.{said_in}
use Rattle.bsp_fault_texts.proofs.table.entry_of.Given as goal

abbrev pub invariant-loop-rows : goal.invariant-loop-rows
invariant-loop-rows l =
    find (λ s. bytes_eq s.code l.code) (flat_map (λ part. map said_in part.now) (drop l.rows-index l.parts))
    ≡ find (λ s. bytes_eq s.code l.code) (flat_map (λ part. map said_in part.now) l.parts)
