use Rattle.std.specs.Ordering.{nat_cmp}
use Rattle.bsp_maps.specs.Undo.{before, content}
use Rattle.bsp_maps.specs.Indexes.{members, members_before}
use Rattle.bsp_rows.specs.Tallies.{tally_cmp}
use Rattle.bsp_memory_tables.specs.Places.{airline_cmp}
use Rattle.bsp_memory_tables.proofs.PlaceOrders.{tallies_by_airline, tallies_by_period}
use Rattle.bsp_memory_tables.proofs.TableLemmas.{tallies_same}
use Rattle.bsp_memory_tables.proofs.tallies.TallyTable.commit.Goals as goal

pub commit-requires-2 : goal.commit-requires-2
commit-requires-2 c = tallies_by_airline

pub commit-requires-3 : goal.commit-requires-3
commit-requires-3 c = tallies_by_period

pub returns-clause-kept : goal.returns-clause-kept
returns-clause-kept c = tallies_same (content tally_cmp c.args.self.now.rows) (content tally_cmp c.commit.new.self) (members airline_cmp tally_cmp c.args.self.now.by_airline) (members airline_cmp tally_cmp c.commit-2.new.self) (members nat_cmp tally_cmp c.args.self.now.by_period) (members nat_cmp tally_cmp c.commit-3.new.self)
    c.commit.ensures.content c.commit-2.ensures.members c.commit-3.ensures.members

pub returns-clause-was_kept : goal.returns-clause-was_kept
returns-clause-was_kept c = tallies_same (content tally_cmp c.args.self.now.rows) (before tally_cmp c.commit.new.self) (members airline_cmp tally_cmp c.args.self.now.by_airline) (members_before airline_cmp tally_cmp c.commit-2.new.self) (members nat_cmp tally_cmp c.args.self.now.by_period) (members_before nat_cmp tally_cmp c.commit-3.new.self)
    c.commit.ensures.before c.commit-2.ensures.before c.commit-3.ensures.before
