use Rattle.std.proofs.Common.{◌+◌, length, map, refl}
use Rattle.bsp_judge.specs.Asked.{Takes, Task}
use Rattle.bsp_judge.specs.Asked.Task.{Allot}
use Rattle.bsp_rules.specs.declared.rows.Range.{Range}
use Rattle.bsp_judge.specs.Steps.{rows_in}
use Rattle.bsp_judge.specs.Unjudged.{IsStopIn}
use Rattle.bsp_plan_trial.proofs.TurnLemmas.{taken_all, taken_more}
use Rattle.bsp_judge.proofs.UnjudgedLemmas.{passed_on, stops_one}
use Rattle.bsp_judge.proofs.preparing.allot_all.Goals as goal

pub loop-place-preserved : goal.loop-place-preserved
loop-place-preserved c =
    let f : Range → Task = λ range. Allot c.args.setup.now.agent range.first range.last in
    let moved = c.in_ok-change.ensures.passed (f c.range-item.result) (refl, refl, refl) in
    record {
      taken = taken_more f Takes (rows_in c.args.desk.now.book) c.args.setup.now.stock.now c.loop-place.place c.range-item.result c.range-item.result (rows_in c.loop-place.desk.book) (rows_in c.change.new.desk.book) c.loop-place-test.true c.range-item.is c.loop-place.invariant.taken moved.taken;
      settled = moved.settled;
    }

pub returns-in_err-change-clause-stopped : goal.returns-in_err-change-clause-stopped
returns-in_err-change-clause-stopped c =
    let f : Range → Task = λ range. Allot c.args.setup.now.agent range.first range.last in
    let s = c.args.setup.now in
    let start = rows_in c.args.desk.now.book in
    let place = c.loop-place.place in
    passed_on (IsStopIn s (length s.plans.now + 2) start (map f s.stock.now)) _ _ c.from_residual.ensures.1
    (stops_one s f s.stock.now (length s.plans.now + 2) start (rows_in c.loop-place.desk.book) place c.range-item.result c.range-item.result c.loop-place-test.true c.range-item.is c.loop-place.invariant.taken (length s.plans.now + 2 + place) refl _ (c.in_err-change.ensures.stopped (f c.range-item.result) (refl, refl, refl)))

pub returns-clause-passed : goal.returns-clause-passed
returns-clause-passed c =
    let f : Range → Task = λ range. Allot c.args.setup.now.agent range.first range.last in
    record {
      taken = taken_all f Takes (rows_in c.args.desk.now.book) c.args.setup.now.stock.now c.loop-place.place (rows_in c.loop-place.desk.book) c.loop-place-test.false c.loop-place.invariant.taken;
      settled = c.loop-place.invariant.settled;
    }
