-- How the lines stand with one more, and what is at fault behind lines that stand so.
use Rattle.std.specs.Prelude.{Bool, ◌≤◌, ℕ, ◌+◌, ◌*◌, ◌^◌, ◌+ℤ◌, unsigned_abs, true, false, List, [], ◌∷◌, Option, Some, None, if◌then◌else◌}
use Rattle.bsp_ret.specs.declared.model.Record.{Record}
use Rattle.bsp_ret.specs.declared.model.Record.TheVariants as said
use Rattle.bsp_ret.specs.declared.model.LastRecord.TheVariants as last
use Rattle.bsp_ret.specs.declared.model.Standing.{Standing}
use Rattle.bsp_ret.specs.declared.model.FaultCode.TheVariants.{F08}
use Rattle.bsp_ret.specs.declared.model.RetFault.{RetFault}
use Rattle.bsp_ret.specs.Said.{record_in}
use Rattle.bsp_ret.specs.Table.{has_ended, row_fault, or_later}

-- by what a record 3 is in order that is alone, where the group has another or not
abbrev pub only_with : Bool → ℕ → Option ℕ
only_with true order = None
only_with false order = Some order

abbrev pub standing_with : Standing → Record → Standing
standing_with at (said.Header profile) = record at { records = at.records + 1; profile = profile; last = last.Header }
standing_with at (said.Sale code) =
    record at { records = at.records + 1; transactions = at.transactions + 1; code = code; related = false; only = None; last = last.Sale }
standing_with at (said.Related order) =
    record at { records = at.records + 1; related = true; only = only_with at.related order; last = last.Related }
standing_with at said.Amounts = record at { records = at.records + 1; last = last.Amounts }
standing_with at (said.Form form amount) = record at { records = at.records + 1; sum = at.sum +ℤ amount; last = last.Form form }
standing_with at said.Trailer = record at { records = at.records + 1; last = last.Trailer }

abbrev pub standing_behind : Standing → List ℕ → Standing
standing_behind at line = standing_with at (record_in line)

-- the first fault of lines behind others that stand so
unfoldable pub fault_behind : Standing → List (List ℕ) → Option RetFault
fault_behind at [] = if has_ended at.last then None else Some (record { code = F08; at = at.records + 1 })
fault_behind at (line ∷ lines) =
    or_later (row_fault at line) (at.records + 1) (fault_behind (standing_behind at line) lines)

-- what stands before fits the program's numbers, where there are this many records at most
pub record FitsIn (at : Standing) (most : ℕ) : Type 0 where
  pub counted : at.transactions ≤ at.records
  pub small : unsigned_abs at.sum ≤ at.records * 10 ^ 11
  pub few : at.records ≤ most
