use Rattle.std.proofs.Common.{◌++◌}
use Rattle.bsp_judge.specs.Asked.{Takes, caller_tasks, earlier_tasks, plan_tasks, stock_tasks, tasks}
use Rattle.bsp_judge.specs.Steps.{rows_in}
use Rattle.bsp_judge.specs.Unjudged.{IsStopIn}
use Rattle.bsp_judge.proofs.TurnLemmas.{folds_append}
use Rattle.bsp_judge.proofs.UnjudgedLemmas.{passed_on, stop_after_callers, stop_after_plans, stop_after_stock, stop_in_plans}
use Rattle.bsp_judge.proofs.preparing.prepare.Goals as goal

pub returns-clause-passed : goal.returns-clause-passed
returns-clause-passed c =
    let s = c.args.setup.now in
    let r0 = rows_in c.args.desk.now.book in
    let r1 = rows_in c.publish_all.new.desk.book in
    let r2 = rows_in c.introduce.new.desk.book in
    let r3 = rows_in c.allot_all.new.desk.book in
    let r4 = rows_in c.repeat_all.new.desk.book in
    record {
      taken =
          folds_append Takes r0 (plan_tasks s) r1 (caller_tasks s ++ (stock_tasks s ++ earlier_tasks s)) r4 c.in_ok-publish_all.ensures.passed.taken
          (folds_append Takes r1 (caller_tasks s) r2 (stock_tasks s ++ earlier_tasks s) r4 c.in_ok-introduce.ensures.passed.taken
          (folds_append Takes r2 (stock_tasks s) r3 (earlier_tasks s) r4 c.in_ok-allot_all.ensures.passed.taken c.in_ok-repeat_all.ensures.passed.taken));
      settled = c.in_ok-repeat_all.ensures.passed.settled;
    }

pub returns-in_err-publish_all-clause-stopped : goal.returns-in_err-publish_all-clause-stopped
returns-in_err-publish_all-clause-stopped c =
    let s = c.args.setup.now in
    passed_on (IsStopIn s 0 (rows_in c.args.desk.now.book) (tasks s)) _ _ c.from_residual.ensures.1 (stop_in_plans s (rows_in c.args.desk.now.book) _ c.in_err-publish_all.ensures.stopped)

pub returns-in_err-introduce-clause-stopped : goal.returns-in_err-introduce-clause-stopped
returns-in_err-introduce-clause-stopped c =
    let s = c.args.setup.now in
    passed_on (IsStopIn s 0 (rows_in c.args.desk.now.book) (tasks s)) _ _ c.from_residual-in_err-introduce.ensures.1
    (stop_after_plans s (rows_in c.args.desk.now.book) (rows_in c.publish_all.new.desk.book) c.in_ok-publish_all.ensures.passed.taken _ c.in_err-introduce.ensures.stopped)

pub returns-in_err-allot_all-clause-stopped : goal.returns-in_err-allot_all-clause-stopped
returns-in_err-allot_all-clause-stopped c =
    let s = c.args.setup.now in
    passed_on (IsStopIn s 0 (rows_in c.args.desk.now.book) (tasks s)) _ _ c.from_residual-in_err-allot_all.ensures.1
    (stop_after_callers s (rows_in c.args.desk.now.book) (rows_in c.publish_all.new.desk.book) c.in_ok-publish_all.ensures.passed.taken (rows_in c.introduce.new.desk.book) c.in_ok-introduce.ensures.passed.taken _ c.in_err-allot_all.ensures.stopped)

pub returns-in_err-repeat_all-clause-stopped : goal.returns-in_err-repeat_all-clause-stopped
returns-in_err-repeat_all-clause-stopped c =
    let s = c.args.setup.now in
    passed_on (IsStopIn s 0 (rows_in c.args.desk.now.book) (tasks s)) _ _ c.from_residual-in_err-repeat_all.ensures.1
    (stop_after_stock s (rows_in c.args.desk.now.book) (rows_in c.publish_all.new.desk.book) c.in_ok-publish_all.ensures.passed.taken (rows_in c.introduce.new.desk.book) c.in_ok-introduce.ensures.passed.taken (rows_in c.allot_all.new.desk.book) c.in_ok-allot_all.ensures.passed.taken _ c.in_err-repeat_all.ensures.stopped)
