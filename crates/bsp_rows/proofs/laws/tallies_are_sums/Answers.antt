use Rattle.bsp_rows.proofs.AskedTallies.{asked_tallies}
use Rattle.bsp_rows.proofs.TallyLaws.{one_tally, tallies_sum}
use Rattle.bsp_rows.proofs.laws.tallies_are_sums.Goals as goal

pub returns-clause-sums : goal.returns-clause-sums
returns-clause-sums c = tallies_sum

pub returns-clause-one : goal.returns-clause-one
returns-clause-one c = one_tally

pub returns-clause-asked : goal.returns-clause-asked
returns-clause-asked c = asked_tallies
