use Rattle.std.proofs.Common.{◌∙◌, ap, sym, ℕ}
use Rattle.std.specs.FinMap.{FinMap, insert}
use Rattle.bsp_maps.specs.Counts.{counted}
use Rattle.bsp_maps.proofs.UndoLemmas.{written_back}
use Rattle.bsp_maps.proofs.place_counts.Counts.count_first.Goals as goal

pub returns-in_ok-put-in-Some-clause-kept : goal.returns-in_ok-put-in-Some-clause-kept
returns-in_ok-put-in-Some-clause-kept g c = λ no.
    let RP = g.P.Ord.cmp in
    c.in_ok-put-in-Some.ensures.ok ∙ ap (λ (m : FinMap RP ℕ). insert m c.args.place c.in-Some.count) c.in_ok-replace.ensures.ok
    ∙ written_back g.met.P.Ord.total c.requires (counted RP c.args.self.now) c.args.place 1 c.in-Some.count (sym c.in_ok-replace.ensures.old ∙ c.in-Some.is)
