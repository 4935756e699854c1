use Rattle.bsp_connection.proofs.TalkLemmas.{talk_start}
use Rattle.bsp_connection.proofs.protocol.HttpProtocol.open.Goals as goal

pub returns-clause-talks : goal.returns-clause-talks
returns-clause-talks g c = talk_start g.S.Service.means g.S.Service.reads c.new.result c.new.ensures.fresh
