use Rattle.std.proofs.Common.{[], Ok, Err, refl, ap, subst, sym, is_some, ◌||◌}
use Rattle.std.proofs.lemmas.Result.{err_from_is_err_and}
use Rattle.bsp_fields.proofs.FirstFaultLemmas.{only_row_told, row_passed}
use Rattle.bsp_fields.specs.declared.change.Change.TheVariants.{Done, Held}
use Rattle.bsp_memos.specs.declared.fault.MemoFault.TheVariants.{ReviewOver, StateForbids, CreditMemo}
use Rattle.bsp_memos.specs.declared.fields.MemoFields.{MemoFields}
use Rattle.bsp_memos.specs.States.{is_credit, is_open, is_disputed}
use Rattle.bsp_memos.specs.Steps.{Dispute, MemoStep, after, is_past_review}
use Rattle.bsp_memos.proofs.ActionLemmas.{not_open, not_disputed, credit_step, held_step, forbidden_step, late_step, done_step}
use Rattle.bsp_memos.proofs.actions.dispute.Goals as goal

pub returns-in_err-require_debit : goal.returns-in_err-require_debit
returns-in_err-require_debit c =
    let memo = c.memo.inside.fields in
    let refused = only_row_told (is_credit memo.kind) CreditMemo (tt {0}) _ (sym c.in_err-require_debit.ensures) in
    let q = err_from_is_err_and c.from_residual.result c.from_residual.ensures.1 in
    rw (q.1, q.2, ← refused.1)
    (subst (λ (m : MemoFields). MemoStep m Dispute c.args.day c.args.review_days (Err CreditMemo) m) c.memo.view_is
    (credit_step memo Dispute c.args.day c.args.review_days refused.0))

pub returns-in-Disputed : goal.returns-in-Disputed
returns-in-Disputed c =
    let memo = c.memo.inside.fields in
    let passed = row_passed (is_credit memo.kind) CreditMemo [] (tt {0}) (tt {0}) (sym c.in_ok-require_debit.ensures) in
    subst (λ (m : MemoFields). MemoStep m Dispute c.args.day c.args.review_days (Ok Held) m) c.memo.view_is
    (held_step memo Dispute c.args.day c.args.review_days passed.0 (ap is_disputed c.in-Disputed.is))

pub returns-in_default : goal.returns-in_default
returns-in_default c =
    let memo = c.memo.inside.fields in
    let passed = row_passed (is_credit memo.kind) CreditMemo [] (tt {0}) (tt {0}) (sym c.in_ok-require_debit.ensures) in
    subst (λ (m : MemoFields). MemoStep m Dispute c.args.day c.args.review_days (Err StateForbids) m) c.memo.view_is
    (forbidden_step memo Dispute c.args.day c.args.review_days passed.0 (not_disputed memo.state c.in_default.not-Disputed) (not_open memo.state c.in_default.not-Open))

pub returns-in_err-require_review-in-Open : goal.returns-in_err-require_review-in-Open
returns-in_err-require_review-in-Open c =
    let memo = c.memo.inside.fields in
    let passed = row_passed (is_credit memo.kind) CreditMemo [] (tt {0}) (tt {0}) (sym c.in_ok-require_debit.ensures) in
    let refused = only_row_told (is_some memo.billed || is_past_review memo c.args.day c.args.review_days) ReviewOver (tt {0}) _ (sym c.in_err-require_review-in-Open.ensures) in
    let q = err_from_is_err_and c.from_residual-in_err-require_review-in-Open.result c.from_residual-in_err-require_review-in-Open.ensures.1 in
    rw (q.1, q.2, ← refused.1)
    (subst (λ (m : MemoFields). MemoStep m Dispute c.args.day c.args.review_days (Err ReviewOver) m) c.memo.view_is
    (late_step memo Dispute c.args.day c.args.review_days passed.0 (ap is_disputed c.in-Open.is) (ap is_open c.in-Open.is) refused.0))

pub returns-in_ok-require_review-in-Open : goal.returns-in_ok-require_review-in-Open
returns-in_ok-require_review-in-Open c =
    let memo = c.memo.inside.fields in
    let passed = row_passed (is_credit memo.kind) CreditMemo [] (tt {0}) (tt {0}) (sym c.in_ok-require_debit.ensures) in
    let in_time = row_passed (is_some memo.billed || is_past_review memo c.args.day c.args.review_days) ReviewOver [] (tt {0}) (tt {0}) (sym c.in_ok-require_review-in-Open.ensures) in
    subst (λ (m : MemoFields). MemoStep m Dispute c.args.day c.args.review_days (Ok Done) (after Dispute memo)) c.memo.view_is
    (done_step memo Dispute c.args.day c.args.review_days passed.0 (ap is_disputed c.in-Open.is) (ap is_open c.in-Open.is) in_time.0 refl)
