use Rattle.std.proofs.Common.{subst, ◌∙◌}
use Rattle.std.specs.List.{All}
use Rattle.std.proofs.lemmas.List.{take_all}
use Rattle.std.proofs.lemmas.List.Elements.{All-more}
use Rattle.bsp_office_spec.specs.HotRules.{IsTypedMemo}
use Rattle.bsp_office_spec.proofs.hot_rows.memos_fit.Goals as goal

pub loop-memo-preserved : goal.loop-memo-preserved
loop-memo-preserved c =
    All-more IsTypedMemo c.args.memos.now c.loop-memo.memo-index c.memo-item.result c.loop-memo-test.true c.loop-memo.invariant (subst IsTypedMemo (c.fields.ensures.value ∙ c.memo-item.is) c.fields_fit.ensures)

pub returns : goal.returns
returns c = subst (All IsTypedMemo) (take_all c.loop-memo.memo-index c.args.memos.now c.loop-memo-test.false) c.loop-memo.invariant
