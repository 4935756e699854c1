use Rattle.std.proofs.Common.{◌<◌, ◌^◌, ◌≡◌, take}
use Rattle.std.specs.Option.{ForSome}
use Rattle.bsp_store_columns.specs.Airlines.{place_of}
use Rattle.bsp_store_columns.proofs.airlines.place_of.Given as goal

abbrev pub invariant-loop-at : goal.invariant-loop-at
invariant-loop-at l = record {
  value : l.place ≡ place_of l.airline (take l.at l.published);
  stored : ForSome l.place (λ place. place < 2 ^ 63);
}
