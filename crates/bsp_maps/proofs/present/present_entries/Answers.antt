use Rattle.std.proofs.Common.{sym, ap, ◌∙◌}
use Rattle.std.specs.FinMap.{empty, from_entries}
use Rattle.std.specs.Map.Iter.{deref_pair}
use Rattle.std.proofs.lemmas.Map.Iter.{rest_all}
use Rattle.bsp_maps.proofs.OrderLemmas.{in_order}
use Rattle.bsp_maps.proofs.PresentLemmas.{with_present, with_present-empty}
use Rattle.bsp_maps.proofs.present.present_entries.Goals as goal

pub returns : goal.returns
returns g c =
    ap (λ es. with_present {R = g.K.Ord.cmp} es (from_entries c.loop-key.found.entries)) (sym (rest_all deref_pair c.loop-key.key-iterator c.next.new.self c.next.result c.in-None.is c.next.ensures.steps))
    ∙ c.loop-key.invariant
    ∙ ap (λ es. with_present {R = g.K.Ord.cmp} es empty) (sym (in_order g.met.K.Ord.total c.args.entries.now.entries c.len-count.ensures.ordered))
    ∙ with_present-empty g.met.K.Ord.total c.requires (from_entries c.args.entries.now.entries)
