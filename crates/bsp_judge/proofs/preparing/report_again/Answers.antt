use Rattle.std.proofs.Common.{Ok, refl, subst, sym}
use Rattle.bsp_office_spec.proofs.EachIsRead.{groups_read}
use Rattle.bsp_desk_writes.specs.Requests.AgentRequest.{AgentFile}
use Rattle.bsp_desk.specs.Instructions.Own.{OfAgent}
use Rattle.bsp_judge.specs.Asked.{place_of}
use Rattle.bsp_judge.specs.Asked.Task.{Report}
use Rattle.bsp_judge.specs.Steps.{rows_in}
use Rattle.bsp_judge.specs.Unjudged.{IsStopOf}
use Rattle.bsp_judge.specs.declared.setup.JudgeFault.TheVariants.{Memory}
use Rattle.bsp_judge.specs.declared.setup.Step.TheVariants.{Closed}
use Rattle.bsp_judge.proofs.UnjudgedLemmas.{passed_on, unless, whatever}
use Rattle.bsp_judge.proofs.preparing.report_again.Goals as goal

pub returns-clause-passed : goal.returns-clause-passed
returns-clause-passed c =
    let file = c.in-Ok.file in
    let ts = groups_read 1 file.groups c.in-Ok.ensures.found.groups in
    let reported = c.in_ok-verdicts.ensures.reported ts.0 ts.1 in
    whatever c.note.result
    (record {
      taken = record { own = OfAgent c.args.setup.now.agent (AgentFile (Ok ts.0)); asks = (ts.0, (file, c.in-Ok.ensures.found, ts.1), refl); passed = tt; after = reported.after };
      settled = reported.settled;
    })

pub returns-clause-stopped : goal.returns-clause-stopped
returns-clause-stopped c =
    let s = c.args.setup.now in
    unless (IsStopOf s (place_of s (Closed c.args.place)) (rows_in c.args.desk.now.book) (Report s.agent c.args.text.now)) c.note.result Memory tt c.note.ensures

pub returns-in_err-verdicts-clause-stopped : goal.returns-in_err-verdicts-clause-stopped
returns-in_err-verdicts-clause-stopped c =
    let s = c.args.setup.now in
    let P = IsStopOf s (place_of s (Closed c.args.place)) (rows_in c.args.desk.now.book) (Report s.agent c.args.text.now) in
    passed_on P _ _ c.from_residual.ensures.1 (subst P (sym c.in_err-verdicts.ensures.fault) tt)
