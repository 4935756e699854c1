use Rattle.std.proofs.Common.{◌++◌}
use Rattle.bsp_connection.proofs.ProgressLemmas.{like_on}
use Rattle.bsp_connection.proofs.TalkLemmas.{talk_moved, talk_same}
use Rattle.bsp_connection.proofs.protocol.HttpProtocol.go_on.Goals as goal

pub returns-clause-asked : goal.returns-clause-asked
returns-clause-asked g c got xs sent talk =
    let m = g.S.Service.means in
    let r = g.S.Service.reads in
    let t = talk_moved m r c.args.connection.now c.go_on.new.c c.args.desk.now c.go_on.new.desk got sent xs c.go_on.ensures.moves talk in
    (t.0, t.1, talk_same m r c.go_on.new.c c.give_back.new.self got sent (xs ++ t.0) c.give_back.ensures t.2)

pub returns-clause-goes_on : goal.returns-clause-goes_on
returns-clause-goes_on g c still free =
    let same = c.give_back.ensures in
    like_on c.args.connection.now c.go_on.new.c c.give_back.new.self same.2 same.0 same.1 (c.go_on.ensures.goes_on still free)
