use Rattle.std.proofs.Common.{rules, ◌≡◌, refl, ◌++◌, ◌∷◌, [], ◌<◌, ◌+◌, ℕ, List, None, arith, ap, subst, sym, take, vec_capacity, vec_len, ◌∙◌}
use Rattle.std.proofs.lemmas.Grind.{common_steps}
use Rattle.std.proofs.lemmas.List.{take_all, take_more}
use Rattle.bsp_routes.specs.declared.reply.Reply.{Reply}
use Rattle.bsp_desk_writes.specs.Requests.{Request as Reading}
use Rattle.bsp_desk.specs.Reading.{AreRead}
use Rattle.bsp_desk.specs.Runs.{AreAnswered, RunReplied}
use Rattle.bsp_desk.specs.Steps.{Answers}
use Rattle.bsp_desk.specs.declared.request.Request.{Request}
use Rattle.bsp_desk.proofs.Reach.{Reached, answered_push, ran, reach_more, reach_none, read_last}
use Rattle.bsp_desk.proofs.desk.Desk.run.Goals as goal

pub loop-request-init : goal.loop-request-init
loop-request-init g c =
    let m = g.B.Book.means in
    let book = c.args.self.now.book in
    record {
      answered = subst (λ (rs : List Reply). AreAnswered m c.args.self.now.office book [] rs book) (sym c.in-Ok.ensures.items) refl;
      trust = λ t. t;
      reached = λ readings read t rows sound h.
          reach_none c.args.self.now.office rows (m.has_failed c.args.self.now.book) (λ r. m.holds c.args.self.now.book r None) readings c.in-Ok.replies.items read c.in-Ok.ensures.items sound h;
      count = grind (arith, common_steps, c.in-Ok.ensures.items);
      room = grind (arith, common_steps, c.in-Ok.ensures);
      office = search rules;
    }

pub loop-request-preserved : goal.loop-request-preserved
loop-request-preserved g c =
    let m = g.B.Book.means in
    let i = c.loop-request in
    let request = c.request-item.result in
    let reply = c.answer-reply.result in
    let book = c.answer-reply.new.self.book in
    let room : vec_len i.replies < vec_capacity i.replies = omega arith in
    let pushed : c.push.new.self.items ≡ i.replies.items ++ reply ∷ [] = grind (arith, common_steps, c.push.ensures.succeeds room) in
    let more : take (i.request-index + 1) c.args.requests.now ≡ take i.request-index c.args.requests.now ++ request ∷ [] =
    take_more c.args.requests.now i.request-index request (omega arith) ∙ ap (λ (r : Request). take i.request-index c.args.requests.now ++ r ∷ []) (sym c.request-item.is) in
    let answered = subst (λ (office : List ℕ). Answers m i.self.book book request office reply) i.invariant.office c.answer-reply.ensures.answered in
    let chain = answered_push m c.args.self.now.office (take i.request-index c.args.requests.now) i.replies.items c.args.self.now.book i.self.book book request reply i.invariant.answered answered in
    record {
      answered =
          subst (λ (rs : List Request). AreAnswered m c.args.self.now.office c.args.self.now.book rs c.push.new.self.items book) (sym more)
          (subst (λ (rs : List Reply). AreAnswered m c.args.self.now.office c.args.self.now.book (take i.request-index c.args.requests.now ++ request ∷ []) rs book) (sym pushed) chain);
      trust = λ t. i.invariant.trust (c.answer-reply.ensures.answered.trust t);
      reached = λ readings read t rows sound h.
          let last = read_last (take i.request-index c.args.requests.now) request readings (subst (λ (rs : List Request). AreRead rs readings) more read) in
          let before = i.invariant.reached last.before last.read (c.answer-reply.ensures.answered.trust t) rows sound h in
          let after = reach_more m i.self.book book request c.args.self.now.office rows reply last.before i.replies.items last.last answered last.is t before in
          subst (λ (rs : List Reading). Reached c.args.self.now.office rows (m.has_failed book) (λ r. m.holds book r None) rs c.push.new.self.items) (sym last.whole)
          (subst (λ (rs : List Reply). Reached c.args.self.now.office rows (m.has_failed book) (λ r. m.holds book r None) (last.before ++ last.last ∷ []) rs) (sym pushed) after);
      count = grind (arith, common_steps, c.push.ensures.succeeds room);
      room = omega arith;
      office = search rules;
    }

pub returns-clause-answered : goal.returns-clause-answered
returns-clause-answered g c =
    let i = c.loop-request in
    let all = take_all i.request-index c.args.requests.now (omega arith) in
    subst (λ (rs : List Request). AreAnswered g.B.Book.means c.args.self.now.office c.args.self.now.book rs i.replies.items i.self.book) all i.invariant.answered

pub returns-clause-ran : goal.returns-clause-ran
returns-clause-ran g c = λ readings read t rows sound h.
    let i = c.loop-request in
    let all = take_all i.request-index c.args.requests.now (omega arith) in
    let k = i.invariant.reached readings (subst (λ (rs : List Request). AreRead rs readings) (sym all) read) t rows sound h in
    let run : RunReplied c.args.self.now.office rows readings i.replies.items = record { begun = sound; exchanges = k.0; left = k.1; sent = k.2; laws = ran c.args.self.now.office rows k.0 k.1 k.3 k.4 sound k.5 } in
    (run, k.6)
