use Rattle.std.proofs.Common.{Bool, refl, sym, ap, ◌∙◌, ◌+◌, ◌∷◌, drop, get_or, if◌then◌else◌}
use Rattle.std.proofs.lemmas.List.{at_drop_more}
use Rattle.bsp_routes.specs.Elements.{without_front}
use Rattle.bsp_routes.proofs.elements.without_front.Goals as goal

pub loop-i-init : goal.loop-i-init
loop-i-init c = refl

pub loop-i-preserved : goal.loop-i-preserved
loop-i-preserved c =
    let text = c.args.text.now in
    let i = c.loop-i.i in
    c.loop-i.invariant
    ∙ at_drop_more without_front text i 0 c.loop-i-test.true
    ∙ ap (λ (blank : Bool). if blank then without_front (drop (i + 1) text) else (get_or text i 0 ∷ drop (i + 1) text)) (sym c.if-not-is_blank.ensures)
