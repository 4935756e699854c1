use Rattle.std.proofs.Common.{◌≡◌, refl, ◌∙◌, ap, [], ◌∷◌, ◌++◌, ℕ}
use Rattle.std.specs.Map.Iter.{deref_pair}
use Rattle.std.proofs.lemmas.Map.Iter.{rest_all}
use Rattle.bsp_maps.specs.declared.spans.Span.{Span}
use Rattle.bsp_rows.specs.Audit.{span_of}
use Rattle.bsp_rows.proofs.LoopLemmas.{map_more, map_all}
use Rattle.bsp_rows.proofs.limits.spans.Goals as goal

same_span : (first last a b : ℕ) → a ≡ first → b ≡ last → ◌≡◌ {A = Span} (record { first = a; last = b }) (record { first = first; last = last })
same_span first last a b e f = ap (λ n. record { first = n; last = b }) e ∙ ap (λ n. record { first = first; last = n }) f

pub loop-key-init : goal.loop-key-init
loop-key-init c = rw (c.new-spans.ensures.items, c.into_iter-key-iterator.ensures.into_iter_gives.0) refl

pub loop-key-preserved : goal.loop-key-preserved
loop-key-preserved c =
    map_more span_of c.loop-key.spans.items c.push.new.self.items (c.in-Some.key.now, c.in-Some.last.now) c.loop-key.key-iterator c.next.new.self _
    c.in-Some.ensures.steps (c.in_ok-push.ensures.items ∙ ap (λ s. c.loop-key.spans.items ++ s ∷ []) (same_span _ _ _ _ c.number.ensures c.number-in-loop-key.ensures)) c.loop-key.invariant

pub returns : goal.returns
returns c = map_all span_of c.loop-key.spans.items c.loop-key.key-iterator _ (rest_all deref_pair c.loop-key.key-iterator c.next.new.self c.next.result c.in-None.is c.next.ensures.steps) c.loop-key.invariant
