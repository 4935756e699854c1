use Rattle.std.specs.Ordering.{nat_cmp}
use Rattle.bsp_maps.specs.Undo.{before, content}
use Rattle.bsp_maps.specs.Indexes.{members, members_before}
use Rattle.bsp_rows.specs.Tallies.{tally_cmp}
use Rattle.bsp_memory_tables.specs.Places.{airline_cmp}
use Rattle.bsp_memory_tables.proofs.PlaceOrders.{tallies_by_airline, tallies_by_period}
use Rattle.bsp_memory_tables.proofs.TableLemmas.{tallies_same}
use Rattle.bsp_memory_tables.proofs.tallies.TallyTable.roll_back.Goals as goal

pub roll_back-requires-2 : goal.roll_back-requires-2
roll_back-requires-2 c = tallies_by_airline

pub roll_back-requires-3 : goal.roll_back-requires-3
roll_back-requires-3 c = tallies_by_period

pub returns-clause-kept : goal.returns-clause-kept
returns-clause-kept c = tallies_same (before tally_cmp c.args.self.now.rows) (content tally_cmp c.roll_back.new.self) (members_before airline_cmp tally_cmp c.args.self.now.by_airline) (members airline_cmp tally_cmp c.roll_back-2.new.self) (members_before nat_cmp tally_cmp c.args.self.now.by_period) (members nat_cmp tally_cmp c.roll_back-3.new.self)
    c.roll_back.ensures.content c.roll_back-2.ensures.members c.roll_back-3.ensures.members

pub returns-clause-was_kept : goal.returns-clause-was_kept
returns-clause-was_kept c = tallies_same (before tally_cmp c.args.self.now.rows) (before tally_cmp c.roll_back.new.self) (members_before airline_cmp tally_cmp c.args.self.now.by_airline) (members_before airline_cmp tally_cmp c.roll_back-2.new.self) (members_before nat_cmp tally_cmp c.args.self.now.by_period) (members_before nat_cmp tally_cmp c.roll_back-3.new.self)
    c.roll_back.ensures.before c.roll_back-2.ensures.before c.roll_back-3.ensures.before
