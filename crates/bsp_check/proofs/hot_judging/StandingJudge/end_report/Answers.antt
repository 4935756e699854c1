use Rattle.std.proofs.Common.{arith}
use Rattle.bsp_check.proofs.HotLemmas.{taken_room}
use Rattle.bsp_check.proofs.hot_judging.StandingJudge.end_report.Goals as goal

pub end_answer-requires-clause-room : goal.end_answer-requires-clause-room
end_answer-requires-clause-room c = omega (arith, taken_room c.args.self c.requires.few)

pub returns : goal.returns
returns c = λ bytes has. c.answer_report.ensures bytes (c.end_answer.ensures bytes has.0)
