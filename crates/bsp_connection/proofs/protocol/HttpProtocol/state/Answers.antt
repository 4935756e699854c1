use Rattle.bsp_connection.proofs.TalkLemmas.{talk_rests}
use Rattle.bsp_connection.proofs.protocol.HttpProtocol.state.Goals as goal

pub returns-clause-done : goal.returns-clause-done
returns-clause-done g c done = talk_rests g.S.Service.means g.S.Service.reads c.args.connection.now (c.is_done.ensures.sent done) (c.is_done.ensures.waits done)
