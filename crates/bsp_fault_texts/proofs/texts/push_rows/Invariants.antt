use Rattle.std.proofs.Common.{◌≡◌, ◌++◌, take}
use Rattle.std.specs.List.{flat_map}
use Rattle.bsp_fault_texts.specs.Table.{said_in}
use Rattle.bsp_fault_texts.specs.Texts.{said_line}
use Rattle.bsp_fault_texts.proofs.texts.push_rows.Given as goal

abbrev pub invariant-loop-code : goal.invariant-loop-code
invariant-loop-code l = l.text.items ≡ l.initial.text.items ++ flat_map (λ row. said_line (said_in row)) (take l.code-index l.rows)
