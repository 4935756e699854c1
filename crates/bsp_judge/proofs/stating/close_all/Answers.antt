use Rattle.std.proofs.Common.{◌≡◌, ◌+◌, length, map, refl, ℕ, arith}
use Rattle.bsp_judge.specs.Asked.{Takes, Task, place_of, tasks}
use Rattle.bsp_judge.specs.Asked.Task.{Close}
use Rattle.bsp_judge.specs.declared.setup.Step.TheVariants.{Closing}
use Rattle.bsp_judge.specs.Steps.{rows_in}
use Rattle.bsp_judge.specs.Unjudged.{IsStopIn}
use Rattle.bsp_plan_trial.proofs.TurnLemmas.{taken_more}
use Rattle.bsp_judge.proofs.UnjudgedLemmas.{passed_on, stops_one}
use Rattle.bsp_judge.proofs.stating.close_all.Goals as goal

pub loop-place-preserved : goal.loop-place-preserved
loop-place-preserved c =
    let f : ℕ → Task = λ code. Close code in
    let code = c.index-codes-place.result in
    let moved = c.in_ok-change.ensures.passed (f code) refl in
    record {
      taken = taken_more f Takes (rows_in c.args.desk.now.book) c.args.codes.now c.loop-place.place code code (rows_in c.loop-place.desk.book) (rows_in c.change.new.desk.book) c.loop-place-test.true c.index-codes-place.is c.loop-place.invariant.taken moved.taken;
      settled = moved.settled;
    }

pub returns-in_err-change-clause-stopped : goal.returns-in_err-change-clause-stopped
returns-in_err-change-clause-stopped c =
    let f : ℕ → Task = λ code. Close code in
    let s = c.args.setup.now in
    let start = rows_in c.args.desk.now.book in
    let code = c.index-codes-place.result in
    let place = c.loop-place.place in
    let at : place_of s (Closing (place + 1)) ≡ (length (tasks s) + 2) + place = omega arith in
    passed_on (IsStopIn s (length (tasks s) + 2) start (map f c.args.codes.now)) _ _ c.from_residual.ensures.1
    (stops_one s f c.args.codes.now (length (tasks s) + 2) start (rows_in c.loop-place.desk.book) place code code c.loop-place-test.true c.index-codes-place.is c.loop-place.invariant.taken (place_of s (Closing (place + 1))) at _ (c.in_err-change.ensures.stopped (f code) refl))
