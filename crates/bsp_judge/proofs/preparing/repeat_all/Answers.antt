use Rattle.std.proofs.Common.{◌+◌, length, map, refl}
use Rattle.bsp_judge.specs.Asked.{Takes, Task, earlier_task}
use Rattle.bsp_judge.specs.declared.setup.Earlier.{Earlier}
use Rattle.bsp_judge.specs.Steps.{rows_in}
use Rattle.bsp_judge.specs.Unjudged.{IsStopIn}
use Rattle.bsp_plan_trial.proofs.TurnLemmas.{taken_all, taken_more}
use Rattle.bsp_judge.proofs.UnjudgedLemmas.{passed_on, stops_one}
use Rattle.bsp_judge.proofs.preparing.repeat_all.Goals as goal

pub loop-place-preserved : goal.loop-place-preserved
loop-place-preserved c =
    let f : Earlier → Task = earlier_task c.args.setup.now.agent in
    let moved = c.in_ok-repeat.ensures.passed in
    record {
      taken = taken_more f Takes (rows_in c.args.desk.now.book) c.args.setup.now.earlier.now c.loop-place.place c.earlier-item.result c.earlier-item.result (rows_in c.loop-place.desk.book) (rows_in c.repeat.new.desk.book) c.loop-place-test.true c.earlier-item.is c.loop-place.invariant.taken moved.taken;
      settled = moved.settled;
    }

pub returns-in_err-repeat-clause-stopped : goal.returns-in_err-repeat-clause-stopped
returns-in_err-repeat-clause-stopped c =
    let f : Earlier → Task = earlier_task c.args.setup.now.agent in
    let s = c.args.setup.now in
    let start = rows_in c.args.desk.now.book in
    let place = c.loop-place.place in
    passed_on (IsStopIn s (length s.plans.now + 2 + length s.stock.now) start (map f s.earlier.now)) _ _ c.from_residual.ensures.1
    (stops_one s f s.earlier.now (length s.plans.now + 2 + length s.stock.now) start (rows_in c.loop-place.desk.book) place c.earlier-item.result c.earlier-item.result c.loop-place-test.true c.earlier-item.is c.loop-place.invariant.taken (length s.plans.now + 2 + length s.stock.now + place) refl _ c.in_err-repeat.ensures.stopped)

pub returns-clause-passed : goal.returns-clause-passed
returns-clause-passed c =
    let f : Earlier → Task = earlier_task c.args.setup.now.agent in
    record {
      taken = taken_all f Takes (rows_in c.args.desk.now.book) c.args.setup.now.earlier.now c.loop-place.place (rows_in c.loop-place.desk.book) c.loop-place-test.false c.loop-place.invariant.taken;
      settled = c.loop-place.invariant.settled;
    }
