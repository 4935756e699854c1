use Rattle.std.proofs.Common.{◌≡◌, ap, cond, sym, subst, ◌∙◌, not, Some, Ok, Err, Result, ℤ, w64, rules, is_some}
use Rattle.std.proofs.lemmas.Int.{to_z-of_z}
use mir.Val.{SFits}
use Rattle.bsp_rows.specs.CivilDay.{CivilDay}
use Rattle.bsp_memos.specs.Memos.{is_amount, issued_memo}
use Rattle.bsp_memos.specs.declared.fault.MemoFault.{MemoFault}
use Rattle.bsp_memos.specs.declared.fault.MemoFault.TheVariants.{AgentNotRegistered, AmountOutOfRange}
use Rattle.bsp_memos.specs.declared.fields.MemoFields.{MemoFields}
use Rattle.bsp_rows.specs.Published.{Published}
use Rattle.bsp_messages.specs.declared.refusal.RequestRefusal.TheVariants as refusal
use Rattle.bsp_office_spec.specs.Answers.Answer.{Refused}
use Rattle.bsp_desk_writes.proofs.IssueLemmas.{made_of, not_registered, out_of_range, refused_of}
use Rattle.bsp_desk_writes.proofs.ServeLemmas.{faults_after, issues, refuses}
use Rattle.bsp_desk_writes.proofs.issues.issue_to.Goals as goal

pub returns-then-is_none-clause-served : goal.returns-then-is_none-clause-served
returns-then-is_none-clause-served g c = λ trust now last s h.
    let unknown = sym (ap is_some (c.in_ok-agent_token.ensures.found trust now (Some last) h)) ∙ c.if-is_none.ensures in
    refuses g.B.Book.means c.agent_token.new.self c.args.airline c.args.agent c.args.issue.now now last AgentNotRegistered
    (not_registered c.args.airline c.args.agent c.args.issue.now now unknown) (c.in_ok-agent_token.ensures.ok now (Some last) h)

pub returns-in-Ok-clause-served : goal.returns-in-Ok-clause-served
returns-in-Ok-clause-served g c =
    let issue = c.args.issue.now in
    let fits : SFits w64 issue.amount = search rules in
    let told : Ok c.in-Ok.memo ≡ cond (not (is_amount issue.amount)) (Err AmountOutOfRange) (Ok (issued_memo c.args.airline issue.document c.args.agent issue.kind issue.amount issue.reason c.day-day.result)) =
    subst (λ (z : ℤ). ◌≡◌ {A = Result MemoFields MemoFault} (Ok c.in-Ok.memo) (cond (not (is_amount z)) (Err AmountOutOfRange) (Ok (issued_memo c.args.airline issue.document c.args.agent issue.kind z issue.reason c.day-day.result)))) (to_z-of_z w64 issue.amount fits) c.in-Ok.ensures in
    let made = made_of (is_amount issue.amount) _ c.in-Ok.memo told in
    issues g.B.Book.means c.args.book.now c.agent_token.new.self c.place.new.book c.place.result c.args.airline c.args.agent issue c.in-Ok.memo
    c.place.ensures.fault.trust (λ trust now last h. sym (ap is_some (c.in_ok-agent_token.ensures.found trust now (Some last) h)) ∙ c.if-is_none.ensures) c.in_ok-agent_token.ensures.ok made.0
    (λ trust now last h.
    let day = c.day-day.ensures ∙ ap (λ (p : Published). p.day) (c.plan.ensures trust now (Some last) h) in
    made.1 ∙ ap (λ (d : CivilDay). issued_memo c.args.airline issue.document c.args.agent issue.kind issue.amount issue.reason d) day)
    c.place.ensures.served

pub returns-in-Ok-clause-fault : goal.returns-in-Ok-clause-fault
returns-in-Ok-clause-fault g c =
    faults_after g.B.Book.means c.args.book.now c.agent_token.new.self c.place.new.book c.in_ok-agent_token.field-0 c.place.result c.in_ok-agent_token.ensures.fault c.in_ok-agent_token.ensures.ok c.place.ensures.fault

pub returns-in-Err-clause-served : goal.returns-in-Err-clause-served
returns-in-Err-clause-served g c = λ trust now last s h.
    let issue = c.args.issue.now in
    let fits : SFits w64 issue.amount = search rules in
    let told : Err c.in-Err.fault ≡ cond (not (is_amount issue.amount)) (Err AmountOutOfRange) (Ok (issued_memo c.args.airline issue.document c.args.agent issue.kind issue.amount issue.reason c.day-day.result)) =
    subst (λ (z : ℤ). ◌≡◌ {A = Result MemoFields MemoFault} (Err c.in-Err.fault) (cond (not (is_amount z)) (Err AmountOutOfRange) (Ok (issued_memo c.args.airline issue.document c.args.agent issue.kind z issue.reason c.day-day.result)))) (to_z-of_z w64 issue.amount fits) c.in-Err.ensures in
    let refused = refused_of (is_amount issue.amount) _ c.in-Err.fault told in
    let known = sym (ap is_some (c.in_ok-agent_token.ensures.found trust now (Some last) h)) ∙ c.if-is_none.ensures in
    refuses g.B.Book.means c.agent_token.new.self c.args.airline c.args.agent issue now last c.in-Err.fault
    (out_of_range c.args.airline c.args.agent issue now known refused.0 ∙ ap (λ (f : MemoFault). Refused (refusal.Memo f)) (sym refused.1)) (c.in_ok-agent_token.ensures.ok now (Some last) h)
