use Rattle.std.proofs.Common.{Some, Option, ap, sym, subst, ◌∙◌}
use Rattle.std.specs.Prelude.{IfSome}
use Rattle.std.proofs.lemmas.Result.{err_from_is_err_and}
use Rattle.bsp_rows.specs.Rows.{HasNumberKey, Rows}
use Rattle.bsp_rules.specs.declared.rows.Item.{Item}
use Rattle.bsp_desk_sales.specs.Judged.{HasFreeKey, rows_with}
use Rattle.bsp_desk_sales.proofs.LookUps.{call_faulted, over_sound}
use Rattle.bsp_desk_sales.proofs.VerdictLemmas.{item_numbered, judged, key_free, next_rows, rows_kept, verdict_read}
use Rattle.bsp_desk_sales.proofs.judging.judge_for.Goals as goal

pub keep_accepted-requires-clause-numbered : goal.keep_accepted-requires-clause-numbered
keep_accepted-requires-clause-numbered g c =
    subst (λ (o : Option Item). IfSome o HasNumberKey) (sym c.accepted-item.ensures)
    (item_numbered c.args.reporter.now c.args.agent c.args.transaction.now c.in_ok-facts.facts c.plan.result.now c.plan-2.result.now c.judge-verdict.result c.judge-verdict.ensures)

pub returns-clause-judged : goal.returns-clause-judged
returns-clause-judged g c = λ trust now last sound holds.
    let who = c.args.reporter.now in
    let t = c.args.transaction.now in
    let agent = c.args.agent in
    let f = c.in_ok-facts.facts in
    let v = c.judge-verdict.result in
    let p = c.plan-2.result.now in
    let t1 = c.in_ok-keep_accepted.ensures.fault.trust trust in
    let found = c.in_ok-facts.ensures.found t1 now last sound holds in
    let plan = c.plan.ensures t1 now (Some last) found.1 in
    let again = c.plan-2.ensures t1 now (Some last) found.1 in
    let is = verdict_read who agent now t f c.plan.result.now v found.0 plan c.judge-verdict.ensures in
    let free = subst (λ (o : Option Item). HasFreeKey o now) (sym c.accepted-item.ensures) (key_free who now t agent c.requires.own v is c.reads_back.ensures sound c.requires.group f p found.0 again) in
    let after = c.in_ok-keep_accepted.ensures.ok now last free found.1 in
    let S : Rows → Type 0 = λ rows. g.B.Book.means.holds c.keep_accepted.new.book rows (Some last) in
    let left = ap (λ (o : Option Item). rows_with o now) c.accepted-item.ensures ∙ (rows_kept agent now t f p found.0 again v ∙ next_rows who now t agent c.requires.own v is) in
    (judged who now t agent c.requires.own v is c.reads_back.ensures sound c.requires.group, subst S left after)

pub returns-in_err-facts-clause-judged : goal.returns-in_err-facts-clause-judged
returns-in_err-facts-clause-judged g c =
    let p = err_from_is_err_and c.from_residual.result c.from_residual.ensures.1 in
    rw (p.1) tt

pub returns-in_err-facts-clause-fault : goal.returns-in_err-facts-clause-fault
returns-in_err-facts-clause-fault g c =
    let p = err_from_is_err_and c.from_residual.result c.from_residual.ensures.1 in
    rw (p.1, p.2) (over_sound (call_faulted _ c.in_err-facts.ensures.fault))
