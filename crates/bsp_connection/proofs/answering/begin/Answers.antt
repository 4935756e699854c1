use Rattle.std.proofs.Common.{is_some, ℕ, List, [], ◌++◌, take, refl, sym, ap, ◌∙◌, subst}
use Rattle.bsp_connection.specs.Begun.{head_in}
use Rattle.bsp_connection.specs.Exchanges.{RequestText}
use Rattle.bsp_connection.proofs.StepLemmas.{fresh_body}
use Rattle.bsp_connection.proofs.TurnLemmas.{begun_turn}
use Rattle.bsp_connection.proofs.answering.begin.Goals as goal

pub body-requires : goal.body-requires
body-requires g c = subst (λ (q : RequestText). g.S.Service.reads.finds q.method q.target c.args.begun.found) (ap (λ (l : List ℕ). head_in (take c.args.begun.head l) c.args.begun.parts) (sym c.bytes.ensures) ∙ sym (c.message_of-message.ensures [])) c.requires.headed.finds

pub returns : goal.returns
returns g c d e run =
    let m = g.S.Service.means in
    let r = g.S.Service.reads in
    let b = c.args.begun in
    let uses = subst (λ (q : RequestText). m.uses q.method q.target (is_some c.body.result)) (c.message_of-message.ensures [] ∙ ap (λ (l : List ℕ). head_in (take b.head l) b.parts) c.bytes.ensures) c.body.ensures.used in
    begun_turn m r c.args.c.now _ d e b c.requires.headed uses c.requires.left c.requires.none c.requires.ready refl refl refl refl refl refl (fresh_body r b.found c.body.result c.body.ensures.fresh)
    (c.put.ensures ∙ ap (λ (l : List ℕ). c.args.c.now.out.bytes ++ l) c.interim.ensures) run
