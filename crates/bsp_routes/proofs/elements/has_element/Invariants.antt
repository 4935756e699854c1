use Rattle.std.proofs.Common.{◌≡◌, ◌≤◌, drop, slice_range}
use Rattle.std.specs.List.{list_any}
use Rattle.bsp_routes.specs.Elements.{is_element, has_element, parts_from}
use Rattle.bsp_routes.proofs.elements.has_element.Given as goal

abbrev pub invariant-loop-i : goal.invariant-loop-i
invariant-loop-i l = record {
  ordered : l.start ≤ l.i;
  value : has_element l.name l.text ≡ list_any (is_element l.name) (parts_from (slice_range l.text l.start l.i) (drop l.i l.text));
}
