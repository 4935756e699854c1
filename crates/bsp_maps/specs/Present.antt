-- A map whose entries may be taken back.
use Rattle.std.specs.Prelude.{Option, Some, None}
use Rattle.std.specs.List.{filter_map}
use Rattle.std.specs.declared.cmp.Ordering.{Ordering}
use Rattle.std.specs.FinMap.{FinMap, entries, from_entries, insert}

abbrev pub present_value : {K V : Type 0} → K → Option V → Option (K × V)
present_value k None = None
present_value k (Some v) = Some (k, v)

abbrev pub present_entry : {K V : Type 0} → K × Option V → Option (K × V)
present_entry e = present_value e.0 e.1

-- the entries that have a value
abbrev pub present : {K V : Type 0} {R : K → K → Ordering} → FinMap R (Option V) → FinMap R V
present m = from_entries (filter_map present_entry (entries m))

-- a map with the value of an entry, if it has one
abbrev pub with_present_value : {K V : Type 0} {R : K → K → Ordering} → K → Option V → FinMap R V → FinMap R V
with_present_value k None m = m
with_present_value k (Some v) m = insert m k v
