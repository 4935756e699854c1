use Rattle.std.proofs.Common.{◌≡◌, drop, map}
use Rattle.std.specs.List.{find}
use Rattle.std.specs.Str.{bytes_eq}
use Rattle.bsp_fault_texts.specs.Table.{said_in}
use Rattle.bsp_fault_texts.proofs.table.entry_in.Given as goal

abbrev pub invariant-loop-row : goal.invariant-loop-row
invariant-loop-row l = find (λ s. bytes_eq s.code l.code) (map said_in (drop l.row-index l.rows)) ≡ find (λ s. bytes_eq s.code l.code) (map said_in l.rows)
