use Rattle.std.proofs.Common.{subst, true}
use Rattle.bsp_routes.specs.Replies.{ReplyText}
use Rattle.bsp_routes.specs.Responses.{response}
use Rattle.bsp_connection.proofs.TurnLemmas.{refused_turn}
use Rattle.bsp_connection.specs.Talks.{IsAnswered}
use Rattle.bsp_connection.proofs.answering.refuse.Goals as goal

pub returns : goal.returns
returns g c =
    let why = c.args.refused in
    refused_turn g.S.Service.means g.S.Service.reads c.args.c.now c.end_message.new.c c.args.desk.now why c.len-all.result c.requires.why c.requires.none c.requires.ready
    (subst (λ (reply : ReplyText). IsAnswered c.len-all.result (response why.bare true reply) true c.args.c.now c.end_message.new.c) c.refusal-reply.ensures c.end_message.ensures)
