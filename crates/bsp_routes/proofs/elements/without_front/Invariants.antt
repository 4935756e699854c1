use Rattle.std.proofs.Common.{◌≡◌, drop}
use Rattle.bsp_routes.specs.Elements.{without_front}
use Rattle.bsp_routes.proofs.elements.without_front.Given as goal

abbrev pub invariant-loop-i : goal.invariant-loop-i
invariant-loop-i l = without_front l.text ≡ without_front (drop l.i l.text)
