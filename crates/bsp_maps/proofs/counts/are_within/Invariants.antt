use Rattle.std.proofs.Common.{◌≡◌, ◌+◌, ◌≤◌}
use Rattle.std.specs.Prelude.{drop, count_by, unwrap_or}
use Rattle.std.specs.Ordering.{eq_by_cmp}
use Rattle.std.specs.BTreeMap.{get}
use Rattle.bsp_maps.proofs.counts.are_within.Given as goal

abbrev pub invariant-loop-key : goal.invariant-loop-key
invariant-loop-key g l = record {
  counted : (q : g.row.K.Denot) → unwrap_or (get g.K.Ord.cmp l.counts q) 0 + count_by (eq_by_cmp g.K.Ord.cmp q) (drop l.key-index l.keys) ≡ count_by (eq_by_cmp g.K.Ord.cmp q) l.keys;
  within : (q : g.row.K.Denot) → unwrap_or (get g.K.Ord.cmp l.counts q) 0 ≤ l.limit;
}
