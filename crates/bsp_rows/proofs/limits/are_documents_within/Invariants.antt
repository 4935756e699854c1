use Rattle.std.proofs.Common.{◌≡◌, ◌+◌, ◌≤◌}
use Rattle.std.specs.Prelude.{count_by, map, unwrap_or}
use Rattle.std.specs.Ordering.{eq_by_cmp}
use Rattle.std.specs.BTreeMap.{get, values}
use Rattle.bsp_rows.specs.Tallies.{item_tally_key, tally_cmp}
use Rattle.bsp_rows.specs.declared.keys.TallyKey.{TallyKey}
use Rattle.bsp_rows.proofs.limits.are_documents_within.Given as goal

abbrev pub invariant-loop-item : goal.invariant-loop-item
invariant-loop-item l = record {
  counted : (q : TallyKey) → unwrap_or (get tally_cmp l.counts q) 0 + count_by (eq_by_cmp tally_cmp q) (map item_tally_key l.item-iterator) ≡ count_by (eq_by_cmp tally_cmp q) (map item_tally_key (values l.items));
  within : (q : TallyKey) → unwrap_or (get tally_cmp l.counts q) 0 ≤ l.limit;
}
