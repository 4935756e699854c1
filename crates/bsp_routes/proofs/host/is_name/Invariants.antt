use Rattle.std.proofs.Common.{◌≡◌, drop}
use Rattle.bsp_routes.specs.Hosts.{is_name}
use Rattle.bsp_routes.proofs.host.is_name.Given as goal

abbrev pub invariant-loop-i : goal.invariant-loop-i
invariant-loop-i l = is_name l.text ≡ is_name (drop l.i l.text)
