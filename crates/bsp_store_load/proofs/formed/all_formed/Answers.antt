use Rattle.bsp_store_base.proofs.Std.{◌+◌, ◌∙◌, ◌∷◌, AllByRecursion, ap, at_drop_more, drop, drop_all, subst, sym}
use Rattle.bsp_store_load.proofs.formed.all_formed.Goals as goal

pub loop-at-preserved : goal.loop-at-preserved
loop-at-preserved g c = λ rest.
    let values = c.args.values.now in
    let i = c.loop-at.at in
    let next = at_drop_more (λ l. l) values i c.index-values-at.result c.loop-at-test.true ∙ ap (λ v. v ∷ drop (i + 1) values) (sym c.index-values-at.is) in
    c.loop-at.invariant (subst (AllByRecursion g.V.Formed.is_formed) (sym next) (c.see.ensures, rest))

pub returns : goal.returns
returns g c = c.loop-at.invariant (subst (AllByRecursion g.V.Formed.is_formed) (sym (drop_all c.loop-at.at c.args.values.now c.loop-at-test.false)) tt)
