use Rattle.std.proofs.Common.{arith}
use Rattle.bsp_check.proofs.HotLemmas.{taken_room, explains_hot}
use Rattle.bsp_check.proofs.hot_judging.StandingJudge.explain_line.Goals as goal

pub explain_line-requires-clause-room : goal.explain_line-requires-clause-room
explain_line-requires-clause-room c = omega (arith, taken_room c.args.self.now c.requires.few)

pub returns : goal.returns
returns c = λ line is.
    let told = c.explain_line.ensures in
    explains_hot c.args.self.now c.explain_line.result line told.number (told.name line is) (told.says line is)
