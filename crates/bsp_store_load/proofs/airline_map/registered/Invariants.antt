use Rattle.bsp_store_base.proofs.Std.{◌≡◌, empty, from_entries, map, nat_cmp}
use Rattle.bsp_store_columns.specs.Airlines.{unplaced}
use Rattle.bsp_store_load.proofs.PutLemmas.{inserted}
use Rattle.bsp_store_load.proofs.airline_map.registered.Given as goal

abbrev pub invariant-loop-code : goal.invariant-loop-code
invariant-loop-code l = inserted (from_entries {R = nat_cmp} l.airlines.entries) (map unplaced l.code-iterator) ≡ inserted empty (map unplaced l.tokens.entries)
