use Rattle.std.proofs.Common.{ap, subst, ◌∙◌}
use Rattle.std.specs.List.{FoldsTo}
use Rattle.bsp_calendar.specs.Published.{Published}
use Rattle.bsp_plan_trial.specs.Plans.{IsPublished, IsStopped, texts_of}
use Rattle.bsp_plan_trial.specs.Turns.{StopsAt}
use Rattle.bsp_plan_trial.proofs.PlanLemmas.{same_day_after}
use Rattle.bsp_plan_trial.proofs.plan_trial.plan_before.Goals as goal

pub on_day-requires : goal.on_day-requires
on_day-requires c =
    same_day_after c.empty-plan.result (texts_of c.args.published.now) c.publish_all.new.plan c.in-Ok.ensures
    ∙ ap (λ (p : Published). p.day) c.empty-plan.ensures

pub returns-in-Ok : goal.returns-in-Ok
returns-in-Ok c = record {
  opened = c.publish_all.new.plan;
  published = subst (λ (p : Published). FoldsTo IsPublished p (texts_of c.args.published.now) c.publish_all.new.plan) c.empty-plan.ensures c.in-Ok.ensures;
  on_day = c.on_day.ensures;
}

pub returns-in-Err : goal.returns-in-Err
returns-in-Err c =
    let refused = c.in-Err.refused in
    subst (λ (p : Published). StopsAt IsPublished (λ plan text. IsStopped plan text refused.fault) p (texts_of c.args.published.now) refused.place) c.empty-plan.ensures c.in-Err.ensures
