use Rattle.bsp_store_base.proofs.Std.{◌≡◌, from_entries, nat_cmp, take}
use Rattle.bsp_store_base.proofs.Base.{placed, with_published}
use Rattle.bsp_store_load.proofs.airline_map.put_published.Given as goal

abbrev pub invariant-loop-at : goal.invariant-loop-at
invariant-loop-at l = from_entries {R = nat_cmp} l.airlines.entries ≡ with_published (from_entries l.tokens.entries) (placed 0 (take l.at l.published)) (from_entries l.fn.airlines.entries)
