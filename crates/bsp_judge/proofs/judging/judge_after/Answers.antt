use Rattle.std.proofs.Common.{List, subst, ℕ}
use Rattle.std.specs.List.{FoldsTo}
use Rattle.bsp_ret.specs.Lines.{lines}
use Rattle.bsp_ret.specs.Ret.{Ret}
use Rattle.bsp_rows.specs.Rows.{Rows, no_rows}
use Rattle.bsp_judge.specs.Asked.{Takes, tasks}
use Rattle.bsp_judge.specs.Steps.{rows_in}
use Rattle.bsp_judge.specs.Unjudged.{IsUnjudged}
use Rattle.bsp_judge.specs.declared.setup.JudgeFault.{JudgeFault}
use Rattle.bsp_judge.proofs.StatementLemmas.{filed}
use Rattle.bsp_judge.proofs.UnjudgedLemmas.{passed_on, stop_unready, unready_unjudged, unstated_unjudged}
use Rattle.bsp_judge.proofs.judging.judge_after.Goals as goal

pub returns-in_err-prepare-clause-unjudged : goal.returns-in_err-prepare-clause-unjudged
returns-in_err-prepare-clause-unjudged c =
    let s = c.args.setup.now in
    passed_on (λ (fault : JudgeFault). (text : List ℕ) → Ret (lines text) c.args.file.now → IsUnjudged s text fault) _ _ c.from_residual.ensures.1
    (λ text ret. unready_unjudged s text _ (stop_unready s (rows_in c.args.desk.now.book) c.requires.empty _ c.in_err-prepare.ensures.stopped))

pub returns-in_err-judged-2-clause-unjudged : goal.returns-in_err-judged-2-clause-unjudged
returns-in_err-judged-2-clause-unjudged c =
    let s = c.args.setup.now in
    let ready = rows_in c.prepare.new.desk.book in
    let left = rows_in c.judge_at.new.desk.book in
    let unstated = c.in_err-judged-2.ensures.unstated in
    let is_ready : FoldsTo Takes no_rows (tasks s) ready = subst (λ (r : Rows). FoldsTo Takes r (tasks s) ready) c.requires.empty c.in_ok-prepare.ensures.passed.taken in
    passed_on (λ (fault : JudgeFault). (text : List ℕ) → Ret (lines text) c.args.file.now → IsUnjudged s text fault) _ _ c.from_residual-in_err-judged-2.ensures.1
    (λ text ret. unstated_unjudged s text left
    (record { ready = ready; is_ready = is_ready; filed = filed s.agent ready left text c.in_ok-judged.judged.lines.items c.in_ok-judged.judged.is_taken (c.in_ok-judged.ensures.judged text ret) })
    unstated.0 unstated.1 _ unstated.2)

pub returns-clause-judged : goal.returns-clause-judged
returns-clause-judged c = λ text ret.
    let s = c.args.setup.now in
    let ready = rows_in c.prepare.new.desk.book in
    record {
      ready = ready;
      is_ready = subst (λ (r : Rows). FoldsTo Takes r (tasks s) ready) c.requires.empty c.in_ok-prepare.ensures.passed.taken;
      left = rows_in c.judge_at.new.desk.book;
      said = c.in_ok-judged.ensures.judged text ret;
      stated = c.in_ok-judged-2.ensures.stated;
    }
