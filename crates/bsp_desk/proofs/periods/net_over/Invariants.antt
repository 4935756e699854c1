use Rattle.std.proofs.Common.{◌≡◌, ◌≤◌, ◌*◌, ◌^◌, length, take}
use Rattle.std.specs.Prelude.{unsigned_abs}
use Rattle.bsp_statement.specs.Nets.{net_of_postings}
use Rattle.bsp_statement.specs.Tallies.{tally_postings}
use Rattle.bsp_desk.proofs.periods.net_over.Given as goal

abbrev pub invariant-loop-tally : goal.invariant-loop-tally
invariant-loop-tally l = record {
  small : length l.tallies ≤ 1000 → unsigned_abs l.net ≤ l.tally-index * 2 ^ 65;
  sum : length l.tallies ≤ 1000 → l.net ≡ net_of_postings (tally_postings l.period (take l.tally-index l.tallies));
}
