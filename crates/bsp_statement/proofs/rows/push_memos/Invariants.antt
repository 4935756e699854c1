use Rattle.std.proofs.Common.{◌≡◌, ◌++◌, take}
use Rattle.bsp_statement.specs.Postings.{memo_postings}
use Rattle.bsp_statement.proofs.rows.push_memos.Given as goal

abbrev pub invariant-loop-memo : goal.invariant-loop-memo
invariant-loop-memo l = l.out.items ≡ l.initial.out.items ++ memo_postings l.period (take l.memo-index l.memos)
