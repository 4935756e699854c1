use Rattle.std.proofs.Common.{◌≡◌, ◌++◌}
use Rattle.std.specs.BTreeMap.{values}
use Rattle.std.specs.List.{filter_map}
use Rattle.bsp_rows.specs.Audit.{relation_in}
use Rattle.bsp_rows.proofs.limits.add_relations.Given as goal

abbrev pub invariant-loop-item : goal.invariant-loop-item
invariant-loop-item l = l.keys.items ++ filter_map (relation_in l.place) l.item-iterator ≡ l.initial.keys.items ++ filter_map (relation_in l.place) (values l.items)
