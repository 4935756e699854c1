use Rattle.std.proofs.Common.{◌≡◌}
use Rattle.std.specs.Prelude.{drop}
use Rattle.std.specs.FinMap.{empty, from_entries}
use Rattle.bsp_maps.specs.Picks.{with_keys}
use Rattle.bsp_maps.proofs.picks.picked.Given as goal

abbrev pub invariant-loop-key : goal.invariant-loop-key
invariant-loop-key g l = with_keys {R = g.K.Ord.cmp} (g.T.Rule.holds l.rule) (from_entries l.entries.entries) (drop l.key-index l.keys) (from_entries l.found.entries)
    ≡ with_keys (g.T.Rule.holds l.rule) (from_entries l.entries.entries) l.keys empty
