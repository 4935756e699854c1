use Rattle.bsp_fields.specs.Lines.{lines}
use Rattle.bsp_check.proofs.JudgingLemmas.{judged_few}
use Rattle.bsp_check.proofs.reporting.report_on.Goals as goal

pub judged_report-requires : goal.judged_report-requires
judged_report-requires g c =
    let read = c.in-Ok.ensures.answer in
    record { few = judged_few g.J.Judge.HasTaken g.J.Judge.IsRefusal c.judge_input.new.judge (lines read.0) c.in-Ok.refusal read.4 }

pub returns-in-Ok-judged_report-clause-report : goal.returns-in-Ok-judged_report-clause-report
returns-in-Ok-judged_report-clause-report g c =
    let read = c.in-Ok.ensures.answer in
    record { bytes = read.0; taken = read.1; at_end = read.2; within = read.3; is = c.in-Ok-judged_report.ensures read.0 read.4 }
