use Rattle.std.proofs.Common.{◌∙◌, ap, is_some, sym}
use Rattle.std.specs.BTreeMap.{BTreeMap}
use Rattle.std.specs.FinMap.{from_entries, get}
use Rattle.bsp_maps.proofs.UndoLemmas.{found}
use Rattle.bsp_rows.specs.Item.{Item}
use Rattle.bsp_rows.specs.Rows.{item_cmp}
use Rattle.bsp_rows.specs.declared.keys.ItemKey.{ItemKey}
use Rattle.bsp_rows.proofs.KeyOrders.{item_total}
use Rattle.bsp_memory_tables.proofs.items.ItemTable.has.Goals as goal

pub returns : goal.returns
returns c =
    c.contains_key.ensures ∙ ap is_some (sym (found item_total c.map.result.now.entries c.args.key.now))
    ∙ ap (λ (m : BTreeMap ItemKey Item). is_some (get (from_entries {R = item_cmp} m.entries) c.args.key.now)) c.map.ensures
