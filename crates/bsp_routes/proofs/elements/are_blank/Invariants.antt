use Rattle.std.proofs.Common.{◌≡◌, take, true}
use Rattle.std.specs.List.{list_all}
use Rattle.bsp_routes.specs.Elements.{is_blank}
use Rattle.bsp_routes.proofs.elements.are_blank.Given as goal

abbrev pub invariant-loop-b : goal.invariant-loop-b
invariant-loop-b l = list_all is_blank (take l.b-index l.text) ≡ true
