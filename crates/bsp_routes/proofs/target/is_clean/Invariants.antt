use Rattle.std.proofs.Common.{◌≤◌, ◌≢◌}
use Rattle.std.specs.List.{AllWithin}
use Rattle.bsp_routes.proofs.target.is_clean.Given as goal

abbrev pub invariant-loop-b : goal.invariant-loop-b
invariant-loop-b l = AllWithin (λ b. (b ≤ 126) × (b ≢ 63) × (b ≢ 37)) l.target 0 l.b-index
