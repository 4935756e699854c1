use Rattle.std.proofs.Common.{ℕ, List, [], take, true, subst}
use Rattle.bsp_routes.specs.Replies.{reply_text}
use Rattle.bsp_routes.specs.Responses.{response}
use Rattle.bsp_connection.specs.Begun.{head_in}
use Rattle.bsp_connection.specs.Talks.{IsAnswered}
use Rattle.bsp_connection.proofs.answering.turn_away.Goals as goal

pub returns : goal.returns
returns g c =
    let b = c.args.begun.now in
    let reply = reply_text c.in-Ok.reply in (
      reply,
      subst (λ (l : List ℕ). g.S.Service.means.steps c.args.desk.now (head_in (take b.head l) b.parts) reply c.ask.new.desk) c.bytes.ensures (c.in-Ok.ensures.answered [] tt),
      subst (λ (n : ℕ). IsAnswered n (response b.parts.wanted.bare true reply) true c.args.c.now c.respond.new.c) c.len-all.ensures c.respond.ensures,
    )
