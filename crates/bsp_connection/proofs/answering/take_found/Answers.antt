use Rattle.std.proofs.Common.{◌≡◌, ◌≤◌, inr, ℕ, List, length, take, true, false, ap, sym, ◌∙◌, subst, IfSome}
use Rattle.httparse.specs.Spans.{IsWithin}
use Rattle.bsp_routes.proofs.ScanLemmas.{head_len-le}
use Rattle.bsp_routes.specs.Head.{AreParts, Refuses}
use Rattle.bsp_connection.specs.Begun.{IsHeaded, IsRead, head_in}
use Rattle.bsp_connection.specs.Conversations.{IsRun}
use Rattle.bsp_connection.specs.Exchanges.{inquiry}
use Rattle.bsp_connection.proofs.StepLemmas.{is_read}
use Rattle.bsp_connection.proofs.TurnLemmas.{unwanted_turn}
use Rattle.bsp_connection.proofs.answering.take_found.Goals as goal

pub up_to-requires : goal.up_to-requires
up_to-requires g c = subst (λ (l : List ℕ). c.args.head ≤ length l) (sym c.bytes.ensures) (head_len-le c.args.c.now.received.items c.args.head c.requires.found)

pub refuse-requires-clause-why : goal.refuse-requires-clause-why
refuse-requires-clause-why g c =
    let text : c.up_to.result.now ≡ take c.args.head c.args.c.now.received.items = c.up_to.ensures.value ∙ ap (λ (l : List ℕ). take c.args.head l) c.bytes.ensures in
    record { why = inr (c.args.head, c.requires.found, c.requires.short, subst (λ (l : List ℕ). Refuses l c.in-Err.refused) text c.in-Err.ensures.err) }

pub headed-begun-requires : goal.headed-begun-requires
headed-begun-requires g c =
    let told = c.in-Ok.ensures in
    let parts = c.in-Ok.parts in
    let text : c.up_to.result.now ≡ take c.args.head c.args.c.now.received.items = c.up_to.ensures.value ∙ ap (λ (l : List ℕ). take c.args.head l) c.bytes.ensures in
    subst (λ (l : List ℕ). IsRead l c.args.head parts) (sym c.bytes-2.ensures)
    (is_read c.args.c.now.received.items c.args.head parts c.requires.found c.requires.short (subst (λ (l : List ℕ). AreParts l parts) text told.ok) (subst (λ (l : List ℕ). IsWithin (length l) parts.method) text told.method)
    (subst (λ (l : List ℕ). IsWithin (length l) parts.target) text told.target) (subst (λ (l : List ℕ). IfSome parts.token (IsWithin (length l))) text told.token))

pub begin-requires-clause-headed : goal.begin-requires-clause-headed
begin-requires-clause-headed g c = subst (λ (l : List ℕ). IsHeaded g.S.Service.reads l c.headed-begun.result) c.bytes-2.ensures c.headed-begun.ensures.headed

pub turn_away-requires-clause-headed : goal.turn_away-requires-clause-headed
turn_away-requires-clause-headed g c = subst (λ (l : List ℕ). IsHeaded g.S.Service.reads l c.headed-begun.result) c.bytes-2.ensures c.headed-begun.ensures.headed

pub returns-then-is_admitted : goal.returns-then-is_admitted
returns-then-is_admitted g c =
    let b = c.headed-begun.result in
    c.begin.ensures c.args.desk.now c.is_admitted.new.desk
    (subst (λ (l : List ℕ). IsRun g.S.Service.means c.args.desk.now (inquiry b.parts.wanted.expects (head_in (take b.head l) b.parts)) c.is_admitted.new.desk) c.bytes-3.ensures (c.is_admitted.ensures.begun c.if-is_admitted.true))

pub returns-else-is_admitted : goal.returns-else-is_admitted
returns-else-is_admitted g c =
    let m = g.S.Service.means in
    let b = c.headed-begun.result in
    let away = c.turn_away.ensures in
    unwanted_turn m g.S.Service.reads c.args.c.now c.turn_away.new.c c.args.desk.now c.is_admitted.new.desk c.turn_away.new.desk b away.0 (length c.args.c.now.received.items) (subst (λ (l : List ℕ). IsHeaded g.S.Service.reads l b) c.bytes-2.ensures c.headed-begun.ensures.headed)
    (subst (λ (l : List ℕ). (b.parts.wanted.expects ≡ true) × m.admits c.args.desk.now (head_in (take b.head l) b.parts) false c.is_admitted.new.desk) c.bytes-3.ensures (c.is_admitted.ensures.unwanted c.if-is_admitted.false)) away.1 c.requires.none c.requires.ready away.2
