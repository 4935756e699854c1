use Rattle.bsp_connection.proofs.TalkLemmas.{if_ok, talk_fed}
use Rattle.bsp_connection.proofs.protocol.HttpProtocol.feed.Goals as goal

pub returns-clause-taken : goal.returns-clause-taken
returns-clause-taken g c =
    if_ok c.feed.result (λ took got xs sent talk. talk_fed g.S.Service.means g.S.Service.reads c.args.connection.now c.feed.new.self got sent c.args.piece.now xs took talk) c.feed.ensures.taken
