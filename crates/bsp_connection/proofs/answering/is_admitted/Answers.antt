use Rattle.std.proofs.Common.{Bool, [], take, refl, sym, subst}
use Rattle.bsp_connection.specs.Begun.{head_in}
use Rattle.bsp_connection.specs.Conversations.{IsRun}
use Rattle.bsp_connection.specs.Exchanges.{RequestText, inquiry}
use Rattle.bsp_connection.proofs.answering.is_admitted.Goals as goal

pub wants-requires : goal.wants-requires
wants-requires g c = subst (λ (q : RequestText). g.S.Service.reads.finds q.method q.target c.args.begun.now.found) (sym (c.message_of-message.ensures [])) c.requires.finds

pub returns-clause-begun : goal.returns-clause-begun
returns-clause-begun g c is =
    let m = g.S.Service.means in
    let d = c.args.desk.now in
    let e = c.wants.new.desk in
    let head = head_in (take c.args.begun.now.head c.args.received.now) c.args.begun.now.parts in
    let wanted = subst (λ (t : Bool). m.admits d head t e) is (subst (λ (q : RequestText). m.admits d q c.wants.result e) (c.message_of-message.ensures []) c.wants.ensures) in
    subst (λ (t : Bool). IsRun m d (inquiry t head) e) (sym c.if-not-begun.false) (e, wanted, refl)

pub returns-clause-unwanted : goal.returns-clause-unwanted
returns-clause-unwanted g c is =
    let m = g.S.Service.means in
    let d = c.args.desk.now in
    let e = c.wants.new.desk in
    let head = head_in (take c.args.begun.now.head c.args.received.now) c.args.begun.now.parts in
    (c.if-not-begun.false, subst (λ (t : Bool). m.admits d head t e) is (subst (λ (q : RequestText). m.admits d q c.wants.result e) (c.message_of-message.ensures []) c.wants.ensures))
