use Rattle.std.specs.Ordering.{nat_cmp}
use Rattle.bsp_maps.specs.Undo.{before, content}
use Rattle.bsp_maps.specs.Counts.{counted, counted_before}
use Rattle.bsp_maps.specs.Indexes.{members, members_before}
use Rattle.bsp_rows.specs.Rows.{memo_cmp}
use Rattle.bsp_memory_tables.specs.Places.{one_cmp, parties_cmp}
use Rattle.bsp_memory_tables.proofs.PlaceOrders.{memos_by_agent, parties_exact, unbilled_memos}
use Rattle.bsp_memory_tables.proofs.TableLemmas.{memos_same}
use Rattle.bsp_memory_tables.proofs.memos.MemoTable.roll_back.Goals as goal

pub roll_back-requires-2 : goal.roll_back-requires-2
roll_back-requires-2 c = memos_by_agent

pub roll_back-requires-3 : goal.roll_back-requires-3
roll_back-requires-3 c = unbilled_memos

pub roll_back-requires-4 : goal.roll_back-requires-4
roll_back-requires-4 c = parties_exact

pub returns-clause-kept : goal.returns-clause-kept
returns-clause-kept c = memos_same (before memo_cmp c.args.self.now.rows) (content memo_cmp c.roll_back.new.self) (members_before nat_cmp memo_cmp c.args.self.now.by_agent) (members nat_cmp memo_cmp c.roll_back-2.new.self) (members_before one_cmp memo_cmp c.args.self.now.unbilled) (members one_cmp memo_cmp c.roll_back-3.new.self) (counted_before parties_cmp c.args.self.now.issued) (counted parties_cmp c.roll_back-4.new.self)
    c.roll_back.ensures.content c.roll_back-2.ensures.members c.roll_back-3.ensures.members c.roll_back-4.ensures.counted

pub returns-clause-was_kept : goal.returns-clause-was_kept
returns-clause-was_kept c = memos_same (before memo_cmp c.args.self.now.rows) (before memo_cmp c.roll_back.new.self) (members_before nat_cmp memo_cmp c.args.self.now.by_agent) (members_before nat_cmp memo_cmp c.roll_back-2.new.self) (members_before one_cmp memo_cmp c.args.self.now.unbilled) (members_before one_cmp memo_cmp c.roll_back-3.new.self) (counted_before parties_cmp c.args.self.now.issued) (counted_before parties_cmp c.roll_back-4.new.self)
    c.roll_back.ensures.before c.roll_back-2.ensures.before c.roll_back-3.ensures.before c.roll_back-4.ensures.before
