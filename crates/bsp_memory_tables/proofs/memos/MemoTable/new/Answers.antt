use Rattle.std.specs.FinMap.{empty}
use Rattle.std.specs.Ordering.{nat_cmp}
use Rattle.bsp_maps.specs.Undo.{before, content}
use Rattle.bsp_maps.specs.Counts.{counted, counted_before}
use Rattle.bsp_maps.specs.Indexes.{members, members_before}
use Rattle.bsp_rows.specs.Rows.{memo_cmp}
use Rattle.bsp_memory_tables.specs.Places.{one_cmp, parties_cmp}
use Rattle.bsp_memory_tables.proofs.PlaceOrders.{memos_by_agent, unbilled_memos}
use Rattle.bsp_memory_tables.proofs.TableLemmas.{memos_same, no_memos}
use Rattle.bsp_memory_tables.proofs.memos.MemoTable.new.Goals as goal

pub new-requires-2 : goal.new-requires-2
new-requires-2 c = memos_by_agent

pub new-requires-3 : goal.new-requires-3
new-requires-3 c = unbilled_memos

pub returns-clause-kept : goal.returns-clause-kept
returns-clause-kept c = memos_same empty (content memo_cmp c.new.result) empty (members nat_cmp memo_cmp c.new-2.result) empty (members one_cmp memo_cmp c.new-3.result) empty (counted parties_cmp c.new-4.result) c.new.ensures.content c.new-2.ensures.members c.new-3.ensures.members c.new-4.ensures.counted no_memos

pub returns-clause-was_kept : goal.returns-clause-was_kept
returns-clause-was_kept c = memos_same empty (before memo_cmp c.new.result) empty (members_before nat_cmp memo_cmp c.new-2.result) empty (members_before one_cmp memo_cmp c.new-3.result) empty (counted_before parties_cmp c.new-4.result) c.new.ensures.before c.new-2.ensures.before c.new-3.ensures.before c.new-4.ensures.before no_memos
