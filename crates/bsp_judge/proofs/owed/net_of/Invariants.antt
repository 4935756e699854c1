use Rattle.std.proofs.Common.{◌≡◌, ◌≤◌, ◌*◌, ◌^◌, map, take}
use Rattle.std.specs.Prelude.{unsigned_abs}
use Rattle.bsp_statement.specs.Nets.{net_of_postings}
use Rattle.bsp_statement.specs.Tallies.{tally_posting}
use Rattle.bsp_judge.proofs.owed.net_of.Given as goal

abbrev pub invariant-loop-tally : goal.invariant-loop-tally
invariant-loop-tally l = record {
  small : unsigned_abs l.net ≤ l.tally-index * 2 ^ 65;
  sum : l.net ≡ net_of_postings (map tally_posting (take l.tally-index l.tallies));
}
