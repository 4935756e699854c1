use Rattle.bsp_store_base.proofs.Std.{◌≡◌, empty, from_entries, nat_cmp, take}
use Rattle.bsp_store_load.specs.Stored.{gathered, placed_code}
use Rattle.bsp_store_load.proofs.airlines.published_in.Given as goal

abbrev pub invariant-loop-airline : goal.invariant-loop-airline
invariant-loop-airline l = from_entries {R = nat_cmp} l.places.entries ≡ gathered placed_code (take l.airline-index l.airlines) empty
