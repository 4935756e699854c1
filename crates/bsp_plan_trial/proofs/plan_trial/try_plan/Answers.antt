use Rattle.std.proofs.Common.{inl, inr, sym, ◌∙◌}
use Rattle.std.proofs.lemmas.List.{length-map}
use Rattle.std.proofs.lemmas.Result.{MatchResult-weaker}
use Rattle.bsp_plan_trial.specs.Plans.{text_of}
use Rattle.bsp_plan_trial.proofs.plan_trial.try_plan.Goals as goal

pub returns-in-Ok : goal.returns-in-Ok
returns-in-Ok c =
    let plan = c.in-Ok.plan in
    let ready = c.in-Ok.ensures in
    MatchResult-weaker c.report_after.result c.report_after.ensures (λ lines said. (plan, ready, said))
    (λ refused is. inr (record { plan = plan; ready = ready; place = is.1 ∙ sym (length-map c.args.published.now text_of); stopped = is.0 }))

pub returns-in-Err : goal.returns-in-Err
returns-in-Err c = inl c.in-Err.ensures
