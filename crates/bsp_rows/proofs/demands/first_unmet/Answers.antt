use Rattle.std.proofs.Common.{sym, subst, ◌∷◌, ◌∙◌}
use Rattle.std.specs.List.{AllByRecursion, Contains}
use Rattle.std.specs.Map.Iter.{deref_pair}
use Rattle.std.proofs.lemmas.Map.Iter.{rest_all}
use Rattle.bsp_rows.proofs.DemandLemmas.{at_entry, for_all, met_by_each}
use Rattle.bsp_rows.proofs.demands.first_unmet.Goals as goal

pub loop-key-init : goal.loop-key-init
loop-key-init g c =
    let P : g.row.K.Denot × g.row.V.Denot → Type 0 = Contains c.args.entries.now.entries in
    let given = c.into_iter-key-iterator.ensures.into_iter_gives.0 in
    ((λ all. subst (AllByRecursion (λ e. g.D.Demand.asks c.args.demand.now e.0 e.1)) given all), subst (AllByRecursion P) (sym given) (for_all P c.args.entries.now.entries (λ e in'. in')))

pub returns-then-not-is_met : goal.returns-then-not-is_met
returns-then-not-is_met g c =
    let P : g.row.K.Denot × g.row.V.Denot → Type 0 = Contains c.args.entries.now.entries in
    let front : AllByRecursion P ((c.in-Some.key.now, c.in-Some.value.now) ∷ c.next.new.self) = subst (AllByRecursion P) c.in-Some.ensures.steps c.loop-key.invariant.1 in
    (c.in-Some.value.now, at_entry g.met.K.Ord.total c.requires c.args.entries.now c.len-count.ensures.ordered c.in-Some.key.now c.in-Some.value.now front.0, (λ asked. cc (sym c.if-not-is_met.true ∙ c.is_met.ensures.1 asked)))

pub returns : goal.returns
returns g c =
    let P : g.row.K.Denot × g.row.V.Denot → Type 0 = λ e. g.D.Demand.asks c.args.demand.now e.0 e.1 in
    let none = rest_all deref_pair c.loop-key.key-iterator c.next.new.self c.next.result c.in-None.is c.next.ensures.steps in
    let all : AllByRecursion P c.args.entries.now.entries = c.loop-key.invariant.0 (subst (AllByRecursion P) (sym none) tt) in
    met_by_each g.met.K.Ord.total c.requires c.args.entries.now c.len-count.ensures.ordered (g.D.Demand.asks c.args.demand.now) all
