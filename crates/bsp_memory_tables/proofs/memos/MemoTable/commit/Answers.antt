use Rattle.std.specs.Ordering.{nat_cmp}
use Rattle.bsp_maps.specs.Undo.{before, content}
use Rattle.bsp_maps.specs.Counts.{counted, counted_before}
use Rattle.bsp_maps.specs.Indexes.{members, members_before}
use Rattle.bsp_rows.specs.Rows.{memo_cmp}
use Rattle.bsp_memory_tables.specs.Places.{one_cmp, parties_cmp}
use Rattle.bsp_memory_tables.proofs.PlaceOrders.{memos_by_agent, unbilled_memos}
use Rattle.bsp_memory_tables.proofs.TableLemmas.{memos_same}
use Rattle.bsp_memory_tables.proofs.memos.MemoTable.commit.Goals as goal

pub commit-requires-2 : goal.commit-requires-2
commit-requires-2 c = memos_by_agent

pub commit-requires-3 : goal.commit-requires-3
commit-requires-3 c = unbilled_memos

pub returns-clause-kept : goal.returns-clause-kept
returns-clause-kept c = memos_same (content memo_cmp c.args.self.now.rows) (content memo_cmp c.commit.new.self) (members nat_cmp memo_cmp c.args.self.now.by_agent) (members nat_cmp memo_cmp c.commit-2.new.self) (members one_cmp memo_cmp c.args.self.now.unbilled) (members one_cmp memo_cmp c.commit-3.new.self) (counted parties_cmp c.args.self.now.issued) (counted parties_cmp c.commit-4.new.self)
    c.commit.ensures.content c.commit-2.ensures.members c.commit-3.ensures.members c.commit-4.ensures.counted

pub returns-clause-was_kept : goal.returns-clause-was_kept
returns-clause-was_kept c = memos_same (content memo_cmp c.args.self.now.rows) (before memo_cmp c.commit.new.self) (members nat_cmp memo_cmp c.args.self.now.by_agent) (members_before nat_cmp memo_cmp c.commit-2.new.self) (members one_cmp memo_cmp c.args.self.now.unbilled) (members_before one_cmp memo_cmp c.commit-3.new.self) (counted parties_cmp c.args.self.now.issued) (counted_before parties_cmp c.commit-4.new.self)
    c.commit.ensures.before c.commit-2.ensures.before c.commit-3.ensures.before c.commit-4.ensures.before
