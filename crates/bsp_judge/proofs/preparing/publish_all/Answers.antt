use Rattle.std.proofs.Common.{◌≡◌, ◌+◌, arith, ℕ, map}
use Rattle.std.specs.Global.{Vec}
use Rattle.bsp_judge.specs.Asked.{Takes, Task}
use Rattle.bsp_judge.specs.Asked.Task.{Publish}
use Rattle.bsp_judge.specs.Steps.{rows_in}
use Rattle.bsp_judge.specs.Unjudged.{IsStopIn}
use Rattle.bsp_plan_trial.proofs.TurnLemmas.{taken_all, taken_more}
use Rattle.bsp_judge.proofs.UnjudgedLemmas.{passed_on, stops_one}
use Rattle.bsp_judge.proofs.preparing.publish_all.Goals as goal

pub loop-place-preserved : goal.loop-place-preserved
loop-place-preserved c =
    let f : Vec ℕ → Task = λ text. Publish text.items in
    let moved = c.in_ok-change.ensures.passed (f c.text-item.result) c.deref.ensures.value in
    record {
      taken = taken_more f Takes (rows_in c.args.desk.now.book) c.args.setup.now.plans.now c.loop-place.place c.text-item.result c.text-item.result (rows_in c.loop-place.desk.book) (rows_in c.change.new.desk.book) c.loop-place-test.true c.text-item.is c.loop-place.invariant.taken moved.taken;
      settled = moved.settled;
    }

pub returns-in_err-change-clause-stopped : goal.returns-in_err-change-clause-stopped
returns-in_err-change-clause-stopped c =
    let f : Vec ℕ → Task = λ text. Publish text.items in
    let s = c.args.setup.now in
    let start = rows_in c.args.desk.now.book in
    let place = c.loop-place.place in
    passed_on (IsStopIn s 0 start (map f s.plans.now)) _ _ c.from_residual.ensures.1
    (stops_one s f s.plans.now 0 start (rows_in c.loop-place.desk.book) place c.text-item.result c.text-item.result c.loop-place-test.true c.text-item.is c.loop-place.invariant.taken place (let same : place ≡ 0 + place = omega arith in same) _ (c.in_err-change.ensures.stopped (f c.text-item.result) c.deref.ensures.value))

pub returns-clause-passed : goal.returns-clause-passed
returns-clause-passed c =
    let f : Vec ℕ → Task = λ text. Publish text.items in
    record {
      taken = taken_all f Takes (rows_in c.args.desk.now.book) c.args.setup.now.plans.now c.loop-place.place (rows_in c.loop-place.desk.book) c.loop-place-test.false c.loop-place.invariant.taken;
      settled = c.loop-place.invariant.settled;
    }
