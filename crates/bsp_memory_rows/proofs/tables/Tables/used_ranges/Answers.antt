use Rattle.std.proofs.Common.{◌≡◌, ◌++◌, ◌∷◌, [], ℕ, List, map, take, ap, sym, ◌∙◌}
use Rattle.std.proofs.lemmas.List.{map_more}
use Rattle.bsp_memory_rows.specs.declared.stock.UsedRange.{UsedRange}
use Rattle.bsp_memory_rows.specs.Lookups.{used_range}
use Rattle.bsp_memory_rows.specs.Tables.{rows_of}
use Rattle.bsp_memory_rows.proofs.tables.Tables.used_ranges.Goals as goal

pub loop-range-preserved : goal.loop-range-preserved
loop-range-preserved c = λ derived.
    let ranges = c.args.ranges.now in
    let i = c.loop-range.range-index in
    let range = c.range-item.result in
    let shown = used_range c.args.agent (rows_of c.args.self.now) in
    let one : UsedRange = record { range = range; used = c.in_ok-used.used } in
    let same : one ≡ shown range = ap (λ (n : ℕ). record { range = range; used = n }) (c.in_ok-used.ensures derived.of_items) in
    c.in_ok-push.ensures.items
    ∙ (ap (λ (us : List UsedRange). us ++ one ∷ []) (c.loop-range.invariant derived)
    ∙ (ap (λ (u : UsedRange). map shown (take i ranges) ++ u ∷ []) (same ∙ ap shown c.range-item.is)
    ∙ sym (map_more shown ranges i range c.loop-range-test.true)))
