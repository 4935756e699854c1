use Rattle.std.proofs.Common.{[], ◌∷◌, ◌++◌, refl, ap, ◌∙◌}
use Rattle.std.specs.Map.Iter.{deref}
use Rattle.std.proofs.lemmas.Map.Iter.{rest_all}
use Rattle.bsp_rows.specs.Audit.{parties_of}
use Rattle.bsp_rows.proofs.LoopLemmas.{map_more, map_all}
use Rattle.bsp_rows.proofs.limits.memo_parties.Goals as goal

pub loop-memo-init : goal.loop-memo-init
loop-memo-init c = rw (c.new-keys.ensures.items, c.into_iter-memo-iterator.ensures.into_iter_gives, c.values-memo-items.ensures.rest) refl

pub loop-memo-preserved : goal.loop-memo-preserved
loop-memo-preserved c =
    map_more parties_of c.loop-memo.keys.items c.push.new.self.items c.in-Some.memo.now c.loop-memo.memo-iterator c.next.new.self _
    c.in-Some.ensures.steps (c.in_ok-push.ensures.items ∙ ap (λ k. c.loop-memo.keys.items ++ k ∷ []) (c.of.ensures ∙ ap parties_of c.fields.ensures.value)) c.loop-memo.invariant

pub returns : goal.returns
returns c = map_all parties_of c.loop-memo.keys.items c.loop-memo.memo-iterator _ (rest_all deref c.loop-memo.memo-iterator c.next.new.self c.next.result c.in-None.is c.next.ensures.steps) c.loop-memo.invariant
