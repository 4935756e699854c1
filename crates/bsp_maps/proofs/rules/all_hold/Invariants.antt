use Rattle.std.proofs.Common.{◌≡◌}
use Rattle.std.specs.List.{list_all}
use Rattle.bsp_maps.proofs.rules.all_hold.Given as goal

abbrev pub invariant-loop-key : goal.invariant-loop-key
invariant-loop-key g l = list_all (λ e. g.T.Rule.holds l.rule e.0 e.1) l.key-iterator ≡ list_all (λ e. g.T.Rule.holds l.rule e.0 e.1) l.entries.entries
