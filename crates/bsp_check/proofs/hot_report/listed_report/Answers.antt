use Rattle.std.proofs.Common.{arith, subst}
use Rattle.std.specs.Prelude.{true}
use Rattle.bsp_check.specs.declared.hot_judging.HotAnswer.{HotAnswer}
use Rattle.bsp_check.specs.HotJudging.{IsHotAnswer}
use Rattle.bsp_check.proofs.HotLemmas.{few_listed, taken_room}
use Rattle.bsp_check.proofs.hot_report.listed_report.Goals as goal

pub end_answer-requires-clause-room : goal.end_answer-requires-clause-room
end_answer-requires-clause-room c = omega (arith, taken_room c.args.listing.at (few_listed c.args.listing c.requires.few))

pub returns-in-Refused : goal.returns-in-Refused
returns-in-Refused c = λ bytes has.
    let Answers : HotAnswer → Type 0 = λ answer. IsHotAnswer bytes answer in
    c.refusal_report.ensures true bytes (subst Answers c.in-Refused.is (c.end_answer.ensures bytes has.0.0))
