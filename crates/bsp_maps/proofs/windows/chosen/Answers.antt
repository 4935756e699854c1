use Rattle.std.proofs.Common.{◌≡◌, Bool, cond, List, [], ◌∷◌, ◌++◌, map, refl, sym, ap, ◌∙◌}
use Rattle.std.specs.List.{filter}
use Rattle.std.specs.Map.Iter.{deref_pair}
use Rattle.std.proofs.lemmas.List.{append-nil}
use Rattle.std.proofs.lemmas.Map.Iter.{rest_more, rest_all}
use Rattle.bsp_maps.specs.Windows.{entries_in}
use Rattle.bsp_maps.proofs.WindowLemmas.{front}
use Rattle.bsp_maps.proofs.WindowLemmas.{chosen_more, chosen_none, from_low}
use Rattle.bsp_maps.proofs.windows.chosen.Goals.{in-None, in-Some+then-not-has}
use Rattle.bsp_maps.proofs.windows.chosen.Goals as goal

finish : {K V : Type 0} (passes : V → Bool) (found : List V) (rest all es : List (K × V)) → rest ≡ [] → found ++ filter passes (map (λ e. e.1) rest) ≡ filter passes (map (λ e. e.1) all) → all ≡ es → found ≡ filter passes (map (λ e. e.1) es)
finish passes found rest all es none so_far is = sym (append-nil found) ∙ ap (λ r. found ++ filter passes (map (λ e. e.1) r)) (sym none) ∙ so_far ∙ ap (λ r. filter passes (map (λ e. e.1) r)) is

pub loop-key-preserved-in-Continue-1 : goal.loop-key-preserved-in-Continue-1
loop-key-preserved-in-Continue-1 g c =
    chosen_more (g.W.Window.has c.args.window.now) (g.T.Test.passes c.args.test.now) c.loop-key.found.items c.push.new.self.items (c.in-Some.key.now, c.in-Some.value.now) c.loop-key.key-iterator c.next.new.self _
    c.in-Some.ensures.steps (sym c.has.ensures ∙ c.if-not-has.false) (sym c.passes.ensures ∙ c.if-passes.true) c.in_ok-push.ensures.items c.loop-key.invariant

pub loop-key-preserved : goal.loop-key-preserved
loop-key-preserved g c =
    chosen_none (g.W.Window.has c.args.window.now) (g.T.Test.passes c.args.test.now) c.loop-key.found.items (c.in-Some.key.now, c.in-Some.value.now) c.loop-key.key-iterator c.next.new.self _
    c.in-Some.ensures.steps (sym c.has.ensures ∙ c.if-not-has.false) (sym c.passes.ensures ∙ c.if-passes.false) c.loop-key.invariant

pub returns-clause-found : goal.returns-clause-found
returns-clause-found g c =
    let has = g.W.Window.has c.args.window.now in
    let none : front has c.loop-key.key-iterator ≡ [] = elim c.match-next.branch [
      | in-None w ↦ ap (front has) (rest_all deref_pair c.loop-key.key-iterator c.next.new.self c.next.result w.in-None.is c.next.ensures.steps)
      | in-Some+then-not-has w ↦
          ap (front has) (rest_more deref_pair c.loop-key.key-iterator c.next.new.self c.next.result (w.in-Some.key, w.in-Some.value) w.in-Some.is c.next.ensures.steps)
          ∙ ap (λ b. cond b ((w.in-Some.key.now, w.in-Some.value.now) ∷ front has c.next.new.self) []) (sym w.has.ensures ∙ w.if-not-has.true)
    ] in
    finish (g.T.Test.passes c.args.test.now) c.loop-key.found.items (front has c.loop-key.key-iterator) _ (entries_in has c.args.entries.now.entries) none c.loop-key.invariant
    (from_low g.K.Ord.cmp has (g.W.Window.low c.args.window.now) (g.met.W.Window.lowest c.args.window.now) (g.met.W.Window.together c.args.window.now) c.args.entries.now.entries c.range-key-items.ensures.ordered)

pub loop-key-init : goal.loop-key-init
loop-key-init g c = rw (c.new-found.ensures.items, c.into_iter-key-iterator.ensures.into_iter_gives, c.range-key-items.ensures.between tt, c.low.ensures) refl

pub returns-clause-ordered : goal.returns-clause-ordered
returns-clause-ordered g c = c.range-key-items.ensures.ordered

pub returns-in_err-push-clause-ordered : goal.returns-in_err-push-clause-ordered
returns-in_err-push-clause-ordered g c = c.range-key-items.ensures.ordered
