use Rattle.std.proofs.Common.{◌++◌, [], ◌∷◌, ◌∙◌, ap, sym}
use Rattle.bsp_statement.specs.declared.posting.Posting.{Posting}
use Rattle.bsp_memos.specs.Owed.{is_billed_in}
use Rattle.bsp_statement.specs.Postings.{memo_posting}
use Rattle.bsp_statement.proofs.ListLemmas.{kept_more, passed_over}
use Rattle.bsp_statement.proofs.rows.push_memos.Goals as goal
use Rattle.bsp_statement.proofs.rows.push_memos.Goals.{then-is_billed_in+in_ok-push, else-is_billed_in}

pub loop-memo-preserved : goal.loop-memo-preserved
loop-memo-preserved c =
    let xs = c.args.memos.now in
    let x = c.memo-item.result in
    let out = c.loop-memo.out.items in
    let tested = ap (is_billed_in c.args.period) (sym c.fields-fields.ensures.value) ∙ sym c.is_billed_in.ensures in
    elim c.if-is_billed_in.branch [
      | then-is_billed_in+in_ok-push w ↦
          let added = ap (λ v. v.items) w.out-is ∙ w.in_ok-push.ensures.items ∙ ap (λ (p : Posting). out ++ p ∷ []) (w.of_memo.ensures ∙ ap memo_posting c.fields-fields.ensures.value) in
          kept_more memo_posting (is_billed_in c.args.period) xs c.loop-memo.memo-index x c.args.out.now.items out _ c.loop-memo-test.true c.memo-item.is c.loop-memo.invariant (tested ∙ w.if-is_billed_in.true) added
      | else-is_billed_in w ↦
          passed_over memo_posting (is_billed_in c.args.period) xs c.loop-memo.memo-index x c.args.out.now.items out _ c.loop-memo-test.true c.memo-item.is c.loop-memo.invariant (tested ∙ w.if-is_billed_in.false) (ap (λ v. v.items) w.out-is)
    ]
