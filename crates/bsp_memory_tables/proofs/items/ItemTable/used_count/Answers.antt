use Rattle.bsp_maps.proofs.PickLemmas.{if_ok}
use Rattle.bsp_memory_tables.specs.ItemTables.{item_rows}
use Rattle.bsp_memory_tables.proofs.items.ItemTable.used_count.Goals as goal

pub returns : goal.returns
returns c = if_ok c.used_count.result (λ v e h. e (item_rows c.args.self.now) h.used) c.used_count.ensures
