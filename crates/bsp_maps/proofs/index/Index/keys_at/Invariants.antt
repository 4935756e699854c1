use Rattle.std.proofs.Common.{◌≡◌, ◌++◌}
use Rattle.std.specs.List.{filter_map}
use Rattle.std.specs.Ordering.{eq_by_cmp}
use Rattle.std.specs.BTreeMap.Range.{entries_between}
use Rattle.std.specs.declared.ops.Bound.TheVariants.{Included, Unbounded}
use Rattle.bsp_maps.proofs.WindowLemmas.{front}
use Rattle.bsp_maps.specs.Indexes.{entry_cmp}
use Rattle.bsp_maps.proofs.IndexLemmas.{here}
use Rattle.bsp_maps.proofs.index.Index.keys_at.Given as goal

abbrev pub invariant-loop-entry : goal.invariant-loop-entry
invariant-loop-entry g l =
    let RP = g.P.Ord.cmp in
    let RK = g.K.Ord.cmp in
    l.found.items ++ filter_map here (front (λ e. eq_by_cmp RP l.fn.place e.0) l.entry-iterator)
    ≡ filter_map here (front (λ e. eq_by_cmp RP l.fn.place e.0) (entries_between (entry_cmp RP RK) (Included (l.fn.place, l.fn.least)) Unbounded l.self.entries.map.entries))
