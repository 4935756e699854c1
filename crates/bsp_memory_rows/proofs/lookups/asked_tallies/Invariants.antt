use Rattle.std.proofs.Common.{◌≡◌, ◌++◌}
use Rattle.std.specs.Prelude.{drop}
use Rattle.bsp_memory_rows.specs.Lookups.{asked_tallies}
use Rattle.bsp_memory_rows.proofs.lookups.asked_tallies.Given as goal

abbrev pub invariant-loop-key : goal.invariant-loop-key
invariant-loop-key l = l.found.items ++ asked_tallies l.which (drop l.key-index l.entries) ≡ asked_tallies l.which l.entries
