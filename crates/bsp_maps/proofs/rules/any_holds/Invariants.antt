use Rattle.std.proofs.Common.{◌≡◌}
use Rattle.std.specs.List.{list_any}
use Rattle.bsp_maps.proofs.rules.any_holds.Given as goal

abbrev pub invariant-loop-key : goal.invariant-loop-key
invariant-loop-key g l = list_any (λ e. g.T.Rule.holds l.rule e.0 e.1) l.key-iterator ≡ list_any (λ e. g.T.Rule.holds l.rule e.0 e.1) l.entries.entries
