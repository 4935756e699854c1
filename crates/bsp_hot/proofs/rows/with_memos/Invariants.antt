use Rattle.std.proofs.Common.{map, take}
use Rattle.std.specs.List.{filter}
use Rattle.bsp_hot.specs.Rows.{is_billed, memo_entry}
use Rattle.bsp_hot.proofs.AddedRows.{Added}
use Rattle.bsp_hot.proofs.rows.with_memos.Given as goal

abbrev pub invariant-loop-memo : goal.invariant-loop-memo
invariant-loop-memo l = Added l.initial.rows.items (map memo_entry (filter (is_billed l.airline l.period) (take l.memo-index l.memos))) l.rows.items
