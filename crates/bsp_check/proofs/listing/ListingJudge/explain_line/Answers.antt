use Rattle.std.proofs.Common.{arith}
use Rattle.bsp_check.proofs.HotLemmas.{few_listed, taken_room, explains_hot}
use Rattle.bsp_check.proofs.listing.ListingJudge.explain_line.Goals as goal

pub explain_line-requires-clause-room : goal.explain_line-requires-clause-room
explain_line-requires-clause-room c = omega (arith, taken_room c.args.self.now.at (few_listed c.args.self.now c.requires.few))

pub returns : goal.returns
returns c = λ line is.
    let told = c.explain_line.ensures in λ none ls has.
    explains_hot c.args.self.now.at c.explain_line.result line told.number (told.name line is) (told.says line is) none ls has.0
