use Rattle.std.proofs.Common.{◌∷◌, is_some, refl, sym, ap, subst, ◌∙◌, Option}
use Rattle.std.specs.Prelude.{option_map}
use Rattle.std.specs.List.{find}
use Rattle.std.specs.List.Sorted.{IsStrictlySortedBy}
use Rattle.std.specs.BTreeMap.{BTreeMap}
use Rattle.std.specs.Map.{keys_of}
use Rattle.bsp_maps.specs.Indexes.{entry_cmp}
use Rattle.bsp_maps.proofs.FirstLemmas.{first_of}
use Rattle.bsp_maps.proofs.index.Index.first_from.Goals as goal

pub returns : goal.returns
returns g c =
    let RP = g.P.Ord.cmp in
    let RK = g.K.Ord.cmp in
    let sorted = subst (λ (m : BTreeMap (g.row.P.Denot × g.row.K.Denot) (Option (Unit {0}))). IsStrictlySortedBy (entry_cmp RP RK) (keys_of m.entries)) c.map.ensures c.range-entry-items.ensures.ordered in
    ap (λ es. option_map (λ e. e.0) (find (λ e. is_some e.1) es)) (sym c.in-None.ensures.steps.0)
    ∙ ap (option_map (λ e. e.0)) c.loop-entry.invariant
    ∙ first_of RP RK g.met.P.Ord.total g.met.K.Ord.total c.args.place c.args.least c.requires c.args.self.now.entries sorted

pub returns-in-Some-value : goal.returns-in-Some-value
returns-in-Some-value g c =
    let RP = g.P.Ord.cmp in
    let RK = g.K.Ord.cmp in
    let sorted = subst (λ (m : BTreeMap (g.row.P.Denot × g.row.K.Denot) (Option (Unit {0}))). IsStrictlySortedBy (entry_cmp RP RK) (keys_of m.entries)) c.map.ensures c.range-entry-items.ensures.ordered in
    ap (λ w. option_map (λ e. e.0) (find (λ e. is_some e.1) ((c.in-Some.entry.now, w) ∷ c.next.new.self))) (sym c.in-Some-value.is)
    ∙ ap (λ es. option_map (λ e. e.0) (find (λ e. is_some e.1) es)) (sym c.in-Some.ensures.steps)
    ∙ ap (option_map (λ e. e.0)) c.loop-entry.invariant
    ∙ first_of RP RK g.met.P.Ord.total g.met.K.Ord.total c.args.place c.args.least c.requires c.args.self.now.entries sorted

pub loop-entry-init : goal.loop-entry-init
loop-entry-init g c = rw (c.into_iter-entry-iterator.ensures.into_iter_gives, c.range-entry-items.ensures.between tt, c.map.ensures) refl

pub loop-entry-preserved : goal.loop-entry-preserved
loop-entry-preserved g c =
    ap (λ w. find (λ e. is_some e.1) ((c.in-Some.entry.now, w) ∷ c.next.new.self)) (sym c.in_default.is)
    ∙ ap (λ es. find (λ e. is_some e.1) es) (sym c.in-Some.ensures.steps)
    ∙ c.loop-entry.invariant
