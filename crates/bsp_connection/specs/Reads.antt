-- What the reads of a connection leave noted.
use Rattle.std.specs.Prelude.{ℕ, Bool, true, Option, Some, None, Result, Ok, Err}
use Rattle.bsp_connection.specs.declared.serving.End.{End}
use Rattle.bsp_connection.specs.declared.serving.End.TheVariants.{Clean, Cut, Closed}
use Rattle.bsp_connection.specs.declared.serving.ServeFault.{ServeFault}
use Rattle.bsp_connection.specs.declared.serving.ServeFault.TheVariants.{Read, Write, Memory}
use Rattle.bsp_connection.specs.declared.serving.Served.{Served}

-- whether a read failed, behind those of a connection
abbrev pub failed_by_reads : {A : Type 0} → Bool → Result A ServeFault → Bool
failed_by_reads before (Ok value) = before
failed_by_reads before (Err Read) = true
failed_by_reads before (Err Write) = before
failed_by_reads before (Err Memory) = before

-- how many reads bring no byte at the most, by how a connection ends
abbrev pub most_empty_by_end : End → ℕ
most_empty_by_end Clean = 1
most_empty_by_end Cut = 1
most_empty_by_end Closed = 0

abbrev pub most_empty_by_fault : ServeFault → ℕ
most_empty_by_fault Read = 1
most_empty_by_fault Write = 0
most_empty_by_fault Memory = 0

-- in one turn, and in all
abbrev pub most_empty_of_turn : Result (Option End) ServeFault → ℕ
most_empty_of_turn (Ok None) = 0
most_empty_of_turn (Ok (Some end)) = most_empty_by_end end
most_empty_of_turn (Err fault) = most_empty_by_fault fault

abbrev pub most_empty : Result Served ServeFault → ℕ
most_empty (Ok served) = most_empty_by_end served.end
most_empty (Err fault) = most_empty_by_fault fault
