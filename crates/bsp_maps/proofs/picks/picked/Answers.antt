use Rattle.std.proofs.Common.{map, sym, ap, ◌∙◌}
use Rattle.std.specs.FinMap.{values, from_entries}
use Rattle.bsp_maps.specs.Picks.{with_keys}
use Rattle.bsp_maps.proofs.OrderLemmas.{in_order}
use Rattle.bsp_maps.proofs.PickLemmas.{if_ok, next_key, none_left}
use Rattle.bsp_maps.proofs.picks.picked.Goals as goal

pub loop-key-preserved : goal.loop-key-preserved
loop-key-preserved g c =
    next_key {R = g.K.Ord.cmp} (g.T.Rule.holds c.args.rule.now) (from_entries c.args.entries.now.entries) c.args.keys.now c.loop-key.key-index c.key-item.result (from_entries c.loop-key.found.entries) (from_entries c.pick.new.found.entries) _
    c.loop-key-test.true c.key-item.is c.in_ok-pick.ensures c.loop-key.invariant

pub returns : goal.returns
returns g c =
    let found = from_entries {R = g.K.Ord.cmp} c.loop-key.found.entries in
    if_ok c.copied.result (λ v e. e
    ∙ ap (map (λ e. e.1)) (sym (in_order g.met.K.Ord.total c.loop-key.found.entries c.copied.ensures.ordered))
    ∙ ap (λ ks. values (with_keys {R = g.K.Ord.cmp} (g.T.Rule.holds c.args.rule.now) (from_entries c.args.entries.now.entries) ks found)) (sym (none_left c.args.keys.now c.loop-key.key-index c.loop-key-test.false))
    ∙ ap values c.loop-key.invariant) c.copied.ensures.found
