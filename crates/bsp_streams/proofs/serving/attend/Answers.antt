use Rattle.std.proofs.Common.{Option, Some, None, refl, subst, sym}
use Rattle.std.specs.Option.{IsSome}
use Rattle.bsp_streams.specs.declared.held.Held.{Held}
use Rattle.bsp_streams.proofs.TableLemmas.{goes_end, goes_same, goes_turn, held_under_way, is_set, set_again}
use Rattle.bsp_streams.proofs.serving.attend.Goals as goal

pub turn-requires : goal.turn-requires
turn-requires g c = held_under_way g.P.Peers.did g.R.Protocol.steps g.R.Protocol.talks g.R.Protocol.rests _ _ c.args.table.now c.args.number c.in-Some.held.now (sym c.in-Some.ensures.value) c.requires

pub returns-in_default-clause-goes : goal.returns-in_default-clause-goes
returns-in_default-clause-goes g c = goes_same g.P.Peers.did g.R.Protocol.steps g.R.Protocol.talks g.R.Protocol.rests _ _ c.args.table.now c.get_mut.follows.lender-at-none c.get_mut.follows.holds-at-none

pub returns-in-Some-turn-clause-goes : goal.returns-in-Some-turn-clause-goes
returns-in-Some-turn-clause-goes g c =
    let b = c.turn.new.held in
    let m = c.get_mut.follows.lender b in
    let some = subst (λ (o : Option (Held g.row.R-Connection.Denot)). IsSome o) c.in-Some.ensures.value refl in
    let set = is_set c.args.table.now.held m c.args.number (Some b) ((c.get_mut.follows.holds b).3 some) in
    let gone = is_set m c.drop_held.new.table c.args.number None c.drop_held.ensures in
    goes_end g.P.Peers.did g.R.Protocol.steps g.R.Protocol.talks g.R.Protocol.rests _ _ _ _ _ c.args.table.now c.drop_held.new.table c.args.number c.in-Some.held.now b.connection c.in-Some-turn.ending
    c.in-Some-turn.ensures c.close.ensures (sym c.in-Some.ensures.value) (set_again c.args.table.now.held m c.drop_held.new.table c.args.number (Some b) None set gone)

pub returns-in_default-turn-clause-goes : goal.returns-in_default-turn-clause-goes
returns-in_default-turn-clause-goes g c =
    let b = c.turn.new.held in
    let m = c.get_mut.follows.lender b in
    let some = subst (λ (o : Option (Held g.row.R-Connection.Denot)). IsSome o) c.in-Some.ensures.value refl in
    goes_turn g.P.Peers.did g.R.Protocol.steps g.R.Protocol.talks g.R.Protocol.rests _ _ _ _ c.args.table.now m c.args.number c.in-Some.held.now b c.in_default-turn.ensures (sym c.in-Some.ensures.value)
    (is_set c.args.table.now.held m c.args.number (Some b) ((c.get_mut.follows.holds b).3 some))
