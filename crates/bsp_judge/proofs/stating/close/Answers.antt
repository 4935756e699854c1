use Rattle.std.proofs.Common.{◌≡◌, ◌+◌, List, [], ◌∷◌, OnOk, IfErr, arith, length, map, refl, subst, ℕ}
use Rattle.bsp_judge.specs.Asked.{Task, place_of, tasks}
use Rattle.bsp_judge.specs.Asked.Task.{Close, SetDay}
use Rattle.bsp_judge.specs.declared.setup.Step.TheVariants.{Closing}
use Rattle.bsp_judge.specs.Steps.{Moves, rows_in}
use Rattle.bsp_judge.specs.Unjudged.{IsStopIn}
use Rattle.bsp_judge.proofs.UnjudgedLemmas.{if_fault, if_ok, more_after, more_before, passed_on, stops_one}
use Rattle.bsp_judge.proofs.stating.close.Goals as goal

pub close_all-requires : goal.close_all-requires
close_all-requires c = (c.in_ok-change.ensures.passed (SetDay c.args.closing.now.day) refl).settled

pub returns-clause-passed : goal.returns-clause-passed
returns-clause-passed c =
    let mid = c.change.new.desk.book in
    let first = c.in_ok-change.ensures.passed (SetDay c.args.closing.now.day) refl in
    if_ok c.close_all.result
    (λ moves. record { taken = (rows_in mid, first.taken, moves.taken); settled = moves.settled })
    (subst (λ (codes : List ℕ). OnOk c.close_all.result (Moves mid (map (λ code. Close code) codes) c.close_all.new.desk.book)) c.deref.ensures.value c.close_all.ensures.passed)

pub returns-in_err-change-clause-stopped : goal.returns-in_err-change-clause-stopped
returns-in_err-change-clause-stopped c =
    let s = c.args.setup.now in
    let start = rows_in c.args.desk.now.book in
    let day : Task = SetDay c.args.closing.now.day in
    let begin = length (tasks s) + 1 in
    let at : place_of s (Closing 0) ≡ begin + 0 = omega arith in
    let closes : List Task = map (λ code. Close code) c.args.closing.now.codes.items in
    passed_on (IsStopIn s begin start (day ∷ closes)) _ _ c.from_residual.ensures.1
    (more_after s begin start (day ∷ []) closes _
    (stops_one s (λ (t : Task). t) (day ∷ []) begin start start 0 day day (omega arith) refl refl (place_of s (Closing 0)) at _ (c.in_err-change.ensures.stopped day refl)))

pub returns-clause-stopped : goal.returns-clause-stopped
returns-clause-stopped c =
    let s = c.args.setup.now in
    let start = rows_in c.args.desk.now.book in
    let mid = rows_in c.change.new.desk.book in
    let day : Task = SetDay c.args.closing.now.day in
    let first = c.in_ok-change.ensures.passed day refl in
    let closes : List Task = map (λ code. Close code) c.args.closing.now.codes.items in
    let after : length (tasks s) + 2 ≡ (length (tasks s) + 1) + 1 = omega arith in
    if_fault c.close_all.result
    (λ fault is. more_before s (length (tasks s) + 1) start mid (day ∷ []) closes (mid, first.taken, refl) fault (subst (λ (n : ℕ). IsStopIn s n mid closes fault) after is))
    (subst (λ (codes : List ℕ). IfErr c.close_all.result (IsStopIn s (length (tasks s) + 2) mid (map (λ code. Close code) codes))) c.deref.ensures.value c.close_all.ensures.stopped)
