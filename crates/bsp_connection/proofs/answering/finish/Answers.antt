use Rattle.std.proofs.Common.{ℕ, List, length, take, Option, is_some, refl, sym, ap, ◌∙◌, subst, arith}
use Rattle.bsp_routes.specs.Replies.{reply_text}
use Rattle.bsp_connection.specs.Begun.{HasBody, IsHeaded, request_in}
use Rattle.bsp_connection.specs.Exchanges.{used}
use Rattle.bsp_connection.specs.Turns.{HasEnded}
use Rattle.bsp_connection.proofs.TurnLemmas.{answered_end, ready_begun, unroomed_end}
use Rattle.bsp_connection.proofs.answering.finish.Goals as goal

pub ask-requires-clause-headed : goal.ask-requires-clause-headed
ask-requires-clause-headed g c =
    subst (λ (l : List ℕ). IsHeaded g.S.Service.reads l c.args.begun.now) (sym c.bytes.ensures) (ready_begun g.S.Service.means g.S.Service.reads c.args.c.now c.args.begun.now c.requires.ready c.requires.begun).headed

pub ask-requires-clause-some : goal.ask-requires-clause-some
ask-requires-clause-some g c =
    let h = ready_begun g.S.Service.means g.S.Service.reads c.args.c.now c.args.begun.now c.requires.ready c.requires.begun in
    (h.came, subst (λ (o : Option g.row.S-Body.Denot). HasBody g.S.Service.reads c.args.begun.now.found o h.came) (sym c.take-body.ensures.value) h.has)

pub unroomed-requires-clause-read : goal.unroomed-requires-clause-read
unroomed-requires-clause-read g c = (ready_begun g.S.Service.means g.S.Service.reads c.args.c.now c.args.begun.now c.requires.ready c.requires.begun).headed.read

pub returns-in_default : goal.returns-in_default
returns-in_default g c =
    let m = g.S.Service.means in
    let r = g.S.Service.reads in
    let b = c.args.begun.now in
    let without = c.in_default.ensures.refused in
    let value = c.take-body.ensures.value in
    subst (λ (e : g.row.D.Denot). HasEnded m r c.args.c.now c.unroomed.new.c c.args.desk.now e) (sym without.0)
    (unroomed_end m r b c.args.c.now _ c.unroomed.new.c c.args.desk.now (length c.args.c.now.received.items) c.requires.begun c.requires.ready (ap (λ (o : Option g.row.S-Body.Denot). is_some o) (sym value) ∙ without.1)
    (λ came has sized. let some = without.2 came (subst (λ (o : Option g.row.S-Body.Denot). HasBody r b.found o came) (sym value) has) in omega (arith, some, sized)) refl refl refl refl c.unroomed.ensures)

pub respond-requires-clause-read : goal.respond-requires-clause-read
respond-requires-clause-read g c = (ready_begun g.S.Service.means g.S.Service.reads c.args.c.now c.args.begun.now c.requires.ready c.requires.begun).headed.read

pub respond-requires-clause-within : goal.respond-requires-clause-within
respond-requires-clause-within g c = (ready_begun g.S.Service.means g.S.Service.reads c.args.c.now c.args.begun.now c.requires.ready c.requires.begun).headed.read.within

pub returns : goal.returns
returns g c =
    let m = g.S.Service.means in
    let r = g.S.Service.reads in
    let b = c.args.begun.now in
    let reply = reply_text c.in-Ok.reply in
    let steps = subst (λ (o : Option g.row.S-Body.Denot). (bytes : List ℕ) → HasBody r b.found o bytes → m.steps c.args.desk.now (request_in (take b.head c.bytes.result.now) b.parts (used (is_some o) bytes)) reply c.ask.new.desk) c.take-body.ensures.value c.in-Ok.ensures.answered in
    answered_end m r b c.args.c.now _ c.respond.new.c c.args.desk.now c.ask.new.desk reply c.closes_after-closes.result c.requires.begun c.requires.ready c.requires.whole
    (λ bytes has. subst (λ (l : List ℕ). m.steps c.args.desk.now (request_in (take b.head l) b.parts (used (is_some c.args.c.now.body) bytes)) reply c.ask.new.desk) c.bytes.ensures (steps bytes has)) c.closes_after-closes.ensures refl refl refl refl c.respond.ensures
