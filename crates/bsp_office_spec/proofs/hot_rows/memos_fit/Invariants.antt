use Rattle.std.proofs.Common.{take}
use Rattle.std.specs.List.{All}
use Rattle.bsp_office_spec.specs.HotRules.{IsTypedMemo}
use Rattle.bsp_office_spec.proofs.hot_rows.memos_fit.Given as goal

abbrev pub invariant-loop-memo : goal.invariant-loop-memo
invariant-loop-memo l = All IsTypedMemo (take l.memo-index l.memos)
