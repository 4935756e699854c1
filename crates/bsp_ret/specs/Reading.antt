-- What a reader makes of lines, one after the other: the file, or the first fault that it meets.
use Rattle.std.specs.Prelude.{ℕ, ◌+◌, List, [], ◌∷◌, ◌++◌, Result, Ok, Err, if◌then◌else◌}
use Rattle.bsp_ret.specs.declared.model.FaultCode.{FaultCode}
use Rattle.bsp_ret.specs.declared.model.FaultCode.TheVariants.{F08, F10}
use Rattle.bsp_ret.specs.declared.model.RetFault.{RetFault}
use Rattle.bsp_ret.specs.declared.model.Standing.{Standing}
use Rattle.bsp_ret.specs.Said.{record_in}
use Rattle.bsp_ret.specs.declared.model.Record.{Record}
use Rattle.bsp_ret.specs.declared.model.Record.TheVariants as said
use Rattle.bsp_ret.specs.Table.{has_ended, row_fault, standing}
use Rattle.bsp_ret.specs.Standings.{standing_behind}
use Rattle.bsp_ret.specs.Ret.{File}

-- a file as far as it was read: the complete groups, and the lines of the last one
pub record Draft : Type 0 where
  pub header : List ℕ
  pub closed : List (List (List ℕ))
  pub latest : List (List ℕ)
  pub trailer : List ℕ

-- no lines are no group
abbrev pub with_group : List (List (List ℕ)) → List (List ℕ) → List (List (List ℕ))
with_group groups [] = groups
with_group groups (line ∷ lines) = groups ++ (line ∷ lines) ∷ []

abbrev pub groups_of : Draft → List (List (List ℕ))
groups_of d = with_group d.closed d.latest

abbrev pub nothing : Draft
nothing = record { header = []; closed = []; latest = []; trailer = [] }

-- one more line: a header, a record 2 that begins a group, a trailer, or a further record of the last group
abbrev pub added : Draft → List ℕ → Record → Draft
added d line (said.Header profile) = record { header = line; closed = d.closed; latest = []; trailer = d.trailer }
added d line (said.Sale code) = record { header = d.header; closed = groups_of d; latest = line ∷ []; trailer = d.trailer }
added d line said.Trailer = record { header = d.header; closed = groups_of d; latest = []; trailer = line }
added d line more = record { header = d.header; closed = d.closed; latest = d.latest ++ line ∷ []; trailer = d.trailer }

abbrev pub add : Draft → List ℕ → Draft
add d line = added d line (record_in line)

abbrev pub or_read : {A : Type 0} → Result (Unit {0}) FaultCode → ℕ → Result A RetFault → Result A RetFault
or_read (Ok none) at read = read
or_read (Err code) at read = Err (record { code = code; at = at })

unfoldable pub read_from : Standing → Draft → List (List ℕ) → Result File RetFault
read_from at d [] =
    if has_ended at.last then Ok (record { header = d.header; groups = d.closed; trailer = d.trailer })
    else Err (record { code = F08; at = at.records + 1 })
read_from at d (line ∷ lines) =
    or_read (row_fault at line) (at.records + 1) (read_from (standing_behind at line) (add d line) lines)

abbrev pub read_all : List (List ℕ) → Result File RetFault
read_all lines = read_from (standing []) nothing lines

-- want of memory
abbrev pub no_memory : RetFault
no_memory = record { code = F10; at = 0 }
