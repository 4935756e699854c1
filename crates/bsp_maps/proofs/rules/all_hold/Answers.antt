use Rattle.std.proofs.Common.{◌≡◌, true, refl, sym, ap, ◌∙◌}
use Rattle.std.specs.List.{list_all}
use Rattle.std.specs.Map.Iter.{deref_pair}
use Rattle.std.proofs.lemmas.Map.Iter.{rest_all}
use Rattle.bsp_maps.proofs.RuleLemmas.{held}
use Rattle.bsp_maps.proofs.rules.all_hold.Goals as goal

pub returns : goal.returns
returns g c =
    let rule = λ (e : g.row.K.Denot × g.row.V.Denot). g.T.Rule.holds c.args.rule.now e.0 e.1 in
    let all : true ≡ list_all rule c.args.entries.now.entries = sym (ap (list_all rule) (rest_all deref_pair c.loop-key.key-iterator c.next.new.self c.next.result c.in-None.is c.next.ensures.steps)) ∙ c.loop-key.invariant in
    ((λ _ k v is. held g.K.Ord.cmp c.requires (g.T.Rule.holds c.args.rule.now) c.args.entries.now.entries k v (sym all) is), (λ _. refl))
