use Rattle.std.proofs.Common.{refl, sym, ◌∙◌}
use Rattle.std.specs.Map.Iter.{deref}
use Rattle.std.proofs.lemmas.Map.Iter.{rest_all}
use Rattle.bsp_rows.specs.Audit.{relation_in}
use Rattle.bsp_rows.proofs.LoopLemmas.{some_more, none_more, some_all}
use Rattle.bsp_rows.proofs.limits.add_relations.Goals as goal

pub loop-item-init : goal.loop-item-init
loop-item-init c = rw (c.into_iter-item-iterator.ensures.into_iter_gives, c.values-item-items.ensures.rest) refl

pub loop-item-preserved-in-Continue-1 : goal.loop-item-preserved-in-Continue-1
loop-item-preserved-in-Continue-1 c =
    some_more (relation_in c.args.place) c.loop-item.keys.items c.push.new.self.items c.in-Some.item.now c.in-Some-relation.key c.loop-item.item-iterator c.next.new.self _
    c.in-Some.ensures.steps (sym c.relation.ensures ∙ c.in-Some-relation.is) c.in_ok-push.ensures.items c.loop-item.invariant

pub loop-item-preserved : goal.loop-item-preserved
loop-item-preserved c =
    none_more (relation_in c.args.place) c.loop-item.keys.items c.in-Some.item.now c.loop-item.item-iterator c.next.new.self _
    c.in-Some.ensures.steps (sym c.relation.ensures ∙ c.in_default.is) c.loop-item.invariant

pub returns : goal.returns
returns c = some_all (relation_in c.args.place) c.loop-item.keys.items c.loop-item.item-iterator _ (rest_all deref c.loop-item.item-iterator c.next.new.self c.next.result c.in-None.is c.next.ensures.steps) c.loop-item.invariant
