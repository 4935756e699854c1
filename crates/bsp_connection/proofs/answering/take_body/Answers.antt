use Rattle.std.proofs.Common.{ℕ, ◌<◌, List, length, sym, ap, ◌∙◌, subst, arith}
use Rattle.bsp_connection.specs.Begun.{IsRead}
use Rattle.bsp_connection.specs.Outputs.{Put}
use Rattle.bsp_connection.proofs.TurnLemmas.{passed_end, passed_ready, passed_turn, ready_begun, unroomed_turn}
use Rattle.bsp_connection.proofs.answering.take_body.Goals as goal

pub pass_on-requires-clause-within : goal.pass_on-requires-clause-within
pass_on-requires-clause-within g c = (ready_begun g.S.Service.means g.S.Service.reads c.args.c.now c.args.begun.now c.requires.ready c.requires.begun).headed.read.within

pub unroomed-requires-clause-read : goal.unroomed-requires-clause-read
unroomed-requires-clause-read g c =
    let b = c.args.begun.now in
    subst (λ (l : List ℕ). IsRead l b.head b.parts) (sym c.in_default.ensures.refused.received) (ready_begun g.S.Service.means g.S.Service.reads c.args.c.now b c.requires.ready c.requires.begun).headed.read

pub unroomed-requires-clause-free : goal.unroomed-requires-clause-free
unroomed-requires-clause-free g c = ap (λ (o : Put). o.apart) c.in_default.ensures.refused.out ∙ c.requires.ready.free

pub unroomed-requires-clause-few : goal.unroomed-requires-clause-few
unroomed-requires-clause-few g c = subst (λ (n : ℕ). n < 65536) (sym c.in_default.ensures.refused.count) c.requires.ready.few

pub returns-in_default : goal.returns-in_default
returns-in_default g c =
    unroomed_turn g.S.Service.means g.S.Service.reads c.args.begun.now c.args.c.now c.pass_on.new.c c.unroomed.new.c c.args.desk.now (length c.pass_on.new.c.received.items) c.requires.begun c.requires.ready c.in_default.ensures.refused c.unroomed.ensures

pub finish-requires-clause-ready : goal.finish-requires-clause-ready
finish-requires-clause-ready g c = passed_ready g.S.Service.means g.S.Service.reads c.args.begun.now c.in-Ok.now c.args.c.now c.pass_on.new.c c.requires.begun c.requires.ready c.in-Ok.ensures.passed

pub returns-then-now-eq0 : goal.returns-then-now-eq0
returns-then-now-eq0 g c =
    passed_end g.S.Service.means g.S.Service.reads c.args.begun.now c.in-Ok.now c.args.c.now c.pass_on.new.c c.finish.new.c c.args.desk.now c.finish.new.desk c.requires.begun c.requires.ready c.in-Ok.ensures.passed c.finish.ensures

pub returns-else-now-eq0 : goal.returns-else-now-eq0
returns-else-now-eq0 g c =
    let some = c.if-now-eq0.false in
    passed_turn g.S.Service.means g.S.Service.reads c.args.begun.now c.in-Ok.now c.args.c.now c.pass_on.new.c c.args.desk.now c.requires.begun c.requires.ready c.in-Ok.ensures.passed (omega (arith, some))
