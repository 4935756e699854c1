use Rattle.std.proofs.Common.{subst}
use Rattle.std.specs.Prelude.{false}
use Rattle.bsp_check.specs.declared.hot_judging.HotAnswer.{HotAnswer}
use Rattle.bsp_check.specs.HotJudging.{IsHotAnswer}
use Rattle.bsp_check.proofs.hot_report.answer_report.Goals as goal

pub returns-in-Refused : goal.returns-in-Refused
returns-in-Refused c = λ bytes is.
    let Answers : HotAnswer → Type 0 = λ answer. IsHotAnswer bytes answer in
    c.refusal_report.ensures false bytes (subst Answers c.in-Refused.is is)
