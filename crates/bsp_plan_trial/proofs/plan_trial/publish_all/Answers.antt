use Rattle.bsp_plan_trial.specs.Plans.{IsPublished, IsStopped, text_of}
use Rattle.bsp_plan_trial.proofs.TurnLemmas.{stops_at, taken_all, taken_more}
use Rattle.bsp_plan_trial.proofs.plan_trial.publish_all.Goals as goal

pub returns-in-Err : goal.returns-in-Err
returns-in-Err c =
    stops_at text_of IsPublished c.args.plan.now c.args.texts.now (λ plan text. IsStopped plan text c.in-Err.fault) c.loop-place.place c.index-texts-place.result c.index-texts-place.result c.loop-place.plan c.loop-place-test.true c.index-texts-place.is c.loop-place.invariant
    (rw c.deref.ensures.value at c.in-Err.ensures.0)

pub loop-place-preserved : goal.loop-place-preserved
loop-place-preserved c =
    taken_more text_of IsPublished c.args.plan.now c.args.texts.now c.loop-place.place c.index-texts-place.result c.index-texts-place.result c.loop-place.plan c.publish.new.plan c.loop-place-test.true c.index-texts-place.is c.loop-place.invariant
    (c.in-Ok.field-0, rw c.deref.ensures.value at c.in-Ok.ensures)

pub returns : goal.returns
returns c = taken_all text_of IsPublished c.args.plan.now c.args.texts.now c.loop-place.place c.loop-place.plan c.loop-place-test.false c.loop-place.invariant
