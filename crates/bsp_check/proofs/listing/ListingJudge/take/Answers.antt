use Rattle.std.proofs.Common.{arith}
use Rattle.bsp_check.proofs.HotLemmas.{few_listed, list_few, taken_room, taken_line}
use Rattle.bsp_check.proofs.listing.ListingJudge.take.Goals as goal

pub take_line-requires-clause-room : goal.take_line-requires-clause-room
take_line-requires-clause-room c = omega (arith, taken_room c.args.self.now.at (few_listed c.args.self.now c.requires.few))

pub take-requires-clause-few : goal.take-requires-clause-few
take-requires-clause-few c = list_few c.args.self.now c.requires.few

pub returns-clause-taken : goal.returns-clause-taken
returns-clause-taken c = λ ls has.
    let took = c.take_line.ensures in
    let going = c.if-not-take_line.false in (
      taken_line c.args.self.now.at c.take_line.new.self c.args.line.now (took.taken going) (took.small going).small ls has.0,
      c.in_ok-take.ensures ls has.1,
    )
