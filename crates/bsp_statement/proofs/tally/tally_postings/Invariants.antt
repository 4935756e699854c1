use Rattle.std.proofs.Common.{◌≡◌, take}
use Rattle.bsp_statement.specs.Tallies.{tally_postings}
use Rattle.bsp_statement.proofs.tally.tally_postings.Given as goal

abbrev pub invariant-loop-tally : goal.invariant-loop-tally
invariant-loop-tally l = l.out.items ≡ tally_postings l.period (take l.tally-index l.tallies)
