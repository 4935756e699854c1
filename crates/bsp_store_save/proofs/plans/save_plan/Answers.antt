use Rattle.bsp_store_save.proofs.PlanLemmas.{dated_meta, dated_plan}
use Rattle.bsp_store_save.proofs.StepLemmas.{as_it_is, restated}
use Rattle.bsp_store_save.proofs.plans.save_plan.Goals as goal

pub returns-in-Same : goal.returns-in-Same
returns-in-Same g c = rw c.in-Same.is (as_it_is (λ now has. has))

pub returns-in-Dated : goal.returns-in-Dated
returns-in-Dated g c =
    let kept = rw c.in-Dated.is at c.requires in
    rw c.in-Dated.is (restated c.save_meta.result c.save_meta.ensures (dated_meta c.args.plan.now c.in-Dated.day c.in-Dated.closed kept.0) (dated_plan c.args.plan.now c.in-Dated.day c.in-Dated.closed kept.0))

pub returns-in-Whole : goal.returns-in-Whole
returns-in-Whole g c = rw c.in-Whole.is c.save_growth.ensures
