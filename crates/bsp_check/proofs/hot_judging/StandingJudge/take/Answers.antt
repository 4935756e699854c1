use Rattle.std.proofs.Common.{arith}
use Rattle.bsp_check.proofs.HotLemmas.{taken_room, taken_line}
use Rattle.bsp_check.proofs.hot_judging.StandingJudge.take.Goals as goal

pub take_line-requires-clause-room : goal.take_line-requires-clause-room
take_line-requires-clause-room c = omega (arith, taken_room c.args.self.now c.requires.few)

pub returns-then-take_line-clause-taken : goal.returns-then-take_line-clause-taken
returns-then-take_line-clause-taken c =
    let took = c.take_line.ensures in
    taken_line c.args.self.now c.take_line.new.self c.args.line.now (took.taken c.if-take_line.true) (took.small c.if-take_line.true).small
