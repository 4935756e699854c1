use Rattle.std.proofs.Common.{ℕ, List, [], take, Option, IfOk, is_some, sym, subst}
use Rattle.bsp_routes.specs.Replies.{reply_text}
use Rattle.bsp_connection.specs.Begun.{HasBody, request_in}
use Rattle.bsp_connection.specs.Exchanges.{RequestText, used}
use Rattle.bsp_connection.proofs.StepLemmas.{if_ok_on}
use Rattle.bsp_connection.proofs.answering.ask.Goals as goal

pub answer_with-requires-clause-found : goal.answer_with-requires-clause-found
answer_with-requires-clause-found g c = subst (λ (q : RequestText). g.S.Service.reads.finds q.method q.target c.args.begun.now.found) (sym (c.message_of-message.ensures [])) c.requires.headed.finds

pub answer-requires : goal.answer-requires
answer-requires g c = subst (λ (q : RequestText). g.S.Service.reads.finds q.method q.target c.args.begun.now.found) (sym (c.message_of-message.ensures [])) c.requires.headed.finds

pub returns-in-Some-clause-answered : goal.returns-in-Some-clause-answered
returns-in-Some-clause-answered g c =
    let steps = g.S.Service.means.steps in
    let b = c.args.begun.now in
    let old = c.args.desk.now in
    let new = c.answer_with.new.desk in
    subst (λ (o : Option g.row.S-Body.Denot). IfOk c.answer_with.result (λ reply. (bytes : List ℕ) → HasBody g.S.Service.reads b.found o bytes → steps old (request_in (take b.head c.args.received.now) b.parts (used (is_some o) bytes)) (reply_text reply) new)) (sym c.in-Some.is)
    (if_ok_on c.answer_with.result (λ reply told bytes has. subst (λ (q : RequestText). steps old q (reply_text reply) new) (c.message_of-message.ensures bytes) (told bytes has)) c.answer_with.ensures.answered)

pub returns-in-None-clause-answered : goal.returns-in-None-clause-answered
returns-in-None-clause-answered g c =
    let steps = g.S.Service.means.steps in
    let b = c.args.begun.now in
    let reply = reply_text c.answer.result in
    subst (λ (o : Option g.row.S-Body.Denot). (bytes : List ℕ) → HasBody g.S.Service.reads b.found o bytes → steps c.args.desk.now (request_in (take b.head c.args.received.now) b.parts (used (is_some o) bytes)) reply c.answer.new.desk) (sym c.in-None.is)
    (λ bytes none. subst (λ (q : RequestText). steps c.args.desk.now q reply c.answer.new.desk) (c.message_of-message.ensures []) c.answer.ensures)
