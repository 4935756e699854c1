use Rattle.std.proofs.Common.{◌+◌, arith, length, refl, ◌≡◌}
use Rattle.bsp_judge.specs.Asked.{Task, caller_tasks}
use Rattle.bsp_judge.specs.Asked.Task.{Register, SetDay}
use Rattle.bsp_judge.specs.Steps.{rows_in}
use Rattle.bsp_judge.specs.Unjudged.{IsStopIn}
use Rattle.bsp_judge.proofs.UnjudgedLemmas.{passed_on, stops_one}
use Rattle.bsp_judge.proofs.preparing.introduce.Goals as goal

pub change-requires-2 : goal.change-requires-2
change-requires-2 c = (c.in_ok-change.ensures.passed (SetDay c.args.setup.now.day) refl).settled

pub returns-clause-passed : goal.returns-clause-passed
returns-clause-passed c =
    let s = c.args.setup.now in
    let first = c.in_ok-change.ensures.passed (SetDay s.day) refl in
    let second = c.in_ok-change-2.ensures.passed (Register s.agent) refl in
    record { taken = (rows_in c.change.new.desk.book, first.taken, (rows_in c.change-2.new.desk.book, second.taken, refl)); settled = second.settled }

pub returns-in_err-change-clause-stopped : goal.returns-in_err-change-clause-stopped
returns-in_err-change-clause-stopped c =
    let s = c.args.setup.now in
    let start = rows_in c.args.desk.now.book in
    let begin = length s.plans.now in
    let at : begin ≡ begin + 0 = omega arith in
    passed_on (IsStopIn s begin start (caller_tasks s)) _ _ c.from_residual.ensures.1
    (stops_one s (λ (t : Task). t) (caller_tasks s) begin start start 0 (SetDay s.day) (SetDay s.day) (omega arith) refl refl begin at _ (c.in_err-change.ensures.stopped (SetDay s.day) refl))

pub returns-in_err-change-2-clause-stopped : goal.returns-in_err-change-2-clause-stopped
returns-in_err-change-2-clause-stopped c =
    let s = c.args.setup.now in
    let start = rows_in c.args.desk.now.book in
    let mid = rows_in c.change.new.desk.book in
    let begin = length s.plans.now in
    let first = c.in_ok-change.ensures.passed (SetDay s.day) refl in
    passed_on (IsStopIn s begin start (caller_tasks s)) _ _ c.from_residual-in_err-change-2.ensures.1
    (stops_one s (λ (t : Task). t) (caller_tasks s) begin start mid 1 (SetDay s.day) (Register s.agent) (omega arith) refl (mid, first.taken, refl) (begin + 1) refl _ (c.in_err-change-2.ensures.stopped (Register s.agent) refl))
