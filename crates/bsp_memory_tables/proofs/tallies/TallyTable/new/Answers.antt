use Rattle.std.specs.FinMap.{empty}
use Rattle.std.specs.Ordering.{nat_cmp}
use Rattle.bsp_maps.specs.Undo.{before, content}
use Rattle.bsp_maps.specs.Indexes.{members, members_before}
use Rattle.bsp_rows.specs.Tallies.{tally_cmp}
use Rattle.bsp_memory_tables.specs.Places.{airline_cmp}
use Rattle.bsp_memory_tables.proofs.PlaceOrders.{tallies_by_airline, tallies_by_period}
use Rattle.bsp_memory_tables.proofs.TableLemmas.{tallies_same, no_tallies}
use Rattle.bsp_memory_tables.proofs.tallies.TallyTable.new.Goals as goal

pub new-requires-2 : goal.new-requires-2
new-requires-2 c = tallies_by_airline

pub new-requires-3 : goal.new-requires-3
new-requires-3 c = tallies_by_period

pub returns-clause-kept : goal.returns-clause-kept
returns-clause-kept c = tallies_same empty (content tally_cmp c.new.result) empty (members airline_cmp tally_cmp c.new-2.result) empty (members nat_cmp tally_cmp c.new-3.result) c.new.ensures.content c.new-2.ensures.members c.new-3.ensures.members no_tallies

pub returns-clause-was_kept : goal.returns-clause-was_kept
returns-clause-was_kept c = tallies_same empty (before tally_cmp c.new.result) empty (members_before airline_cmp tally_cmp c.new-2.result) empty (members_before nat_cmp tally_cmp c.new-3.result) c.new.ensures.before c.new-2.ensures.before c.new-3.ensures.before no_tallies
