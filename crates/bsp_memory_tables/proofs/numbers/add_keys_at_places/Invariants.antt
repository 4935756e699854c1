use Rattle.std.proofs.Common.{◌≡◌, ◌++◌}
use Rattle.std.specs.Prelude.{drop}
use Rattle.bsp_maps.specs.Undo.{content}
use Rattle.bsp_memory_tables.specs.Numbers.{keys_at_each, number_cmp, place_numbers}
use Rattle.bsp_memory_tables.proofs.numbers.add_keys_at_places.Given as goal

abbrev pub invariant-loop-place : goal.invariant-loop-place
invariant-loop-place l = l.found.items ++ keys_at_each (content number_cmp l.index) l.agent (place_numbers (drop l.place-index l.places))
    ≡ l.fn.found.items ++ keys_at_each (content number_cmp l.index) l.agent (place_numbers l.places)
