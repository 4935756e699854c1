use Rattle.bsp_connection.proofs.TurnLemmas.{not_apart, ready_on, turn_on}
use Rattle.std.proofs.Common.{sym, ◌∙◌}
use Rattle.bsp_connection.proofs.answering.take_message.Goals as goal

pub take_body-requires-clause-ready : goal.take_body-requires-clause-ready
take_body-requires-clause-ready g c =
    ready_on g.S.Service.means g.S.Service.reads c.args.c.now c.take_head.new.c c.args.desk.now c.take_head.new.desk c.in-Some.begun c.requires.ready c.take_head.ensures c.in-Some.is (not_apart c.take_head.new.c.out.apart (sym c.if-not-is_free.false ∙ c.is_free.ensures))

pub returns-in-Some : goal.returns-in-Some
returns-in-Some g c =
    turn_on g.S.Service.means g.S.Service.reads c.args.c.now c.take_head.new.c c.take_body.new.c c.args.desk.now c.take_head.new.desk c.take_body.new.desk c.in-Some.begun c.take_head.ensures c.in-Some.is c.take_body.ensures
