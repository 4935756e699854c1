use Rattle.std.proofs.Common.{◌≡◌}
use Rattle.std.specs.Prelude.{drop}
use Rattle.bsp_maps.specs.Undo.{before, content}
use Rattle.bsp_memory_tables.specs.Numbers.{number_cmp, place_numbers, with_numbers}
use Rattle.bsp_memory_tables.proofs.numbers.add_places.Given as goal

abbrev pub invariant-loop-place : goal.invariant-loop-place
invariant-loop-place l = record {
  left : with_numbers l.key (place_numbers (drop l.place-index l.places)) (content number_cmp l.index) ≡ with_numbers l.key (place_numbers l.places) (content number_cmp l.fn.index);
  before : before number_cmp l.index ≡ before number_cmp l.fn.index;
}
