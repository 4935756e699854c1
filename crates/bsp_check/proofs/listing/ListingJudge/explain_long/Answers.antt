use Rattle.std.proofs.Common.{◌++◌, arith}
use Rattle.bsp_check.proofs.HotLemmas.{few_listed, taken_room, explains_hot}
use Rattle.bsp_check.proofs.listing.ListingJudge.explain_long.Goals as goal

pub explain_long-requires-clause-room : goal.explain_long-requires-clause-room
explain_long-requires-clause-room c = omega (arith, taken_room c.args.self.now.at (few_listed c.args.self.now c.requires.few))

pub returns : goal.returns
returns c = λ more long.
    let told = c.explain_long.ensures in λ none ls has.
    explains_hot c.args.self.now.at c.explain_long.result (c.args.head.now ++ more) told.number (told.name more) (told.says more long) none ls has.0
