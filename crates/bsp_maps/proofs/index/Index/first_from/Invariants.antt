use Rattle.std.proofs.Common.{◌≡◌, is_some}
use Rattle.std.specs.List.{find}
use Rattle.std.specs.BTreeMap.Range.{entries_between}
use Rattle.std.specs.declared.ops.Bound.TheVariants.{Included, Unbounded}
use Rattle.bsp_maps.specs.Indexes.{entry_cmp}
use Rattle.bsp_maps.proofs.index.Index.first_from.Given as goal

abbrev pub invariant-loop-entry : goal.invariant-loop-entry
invariant-loop-entry g l =
    find (λ e. is_some e.1) l.entry-iterator
    ≡ find (λ e. is_some e.1) (entries_between (entry_cmp g.P.Ord.cmp g.K.Ord.cmp) (Included (l.fn.place, l.fn.least)) Unbounded l.self.entries.map.entries)
