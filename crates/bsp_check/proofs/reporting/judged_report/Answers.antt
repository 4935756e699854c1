use Rattle.bsp_fields.specs.Lines.{lines}
use Rattle.bsp_check.proofs.JudgingLemmas.{judged_taken, judged_refusal}
use Rattle.bsp_check.proofs.reporting.judged_report.Goals as goal

pub returns-in-None : goal.returns-in-None
returns-in-None g c = λ bytes judged.
    c.end_report.ensures bytes (judged_taken g.J.Judge.HasTaken g.J.Judge.IsRefusal c.args.judge (lines bytes) c.args.refusal judged c.in-None.is)

pub returns-in-Some : goal.returns-in-Some
returns-in-Some g c = λ bytes judged.
    c.refusal_report.ensures bytes (judged_refusal g.J.Judge.HasTaken g.J.Judge.IsRefusal c.args.judge (lines bytes) c.args.refusal c.in-Some.refusal judged c.in-Some.is)
