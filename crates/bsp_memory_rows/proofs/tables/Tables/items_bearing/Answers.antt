use Rattle.bsp_maps.proofs.PickLemmas.{if_ok}
use Rattle.bsp_memory_rows.proofs.tables.Tables.items_bearing.Goals as goal

pub returns : goal.returns
returns c = if_ok c.bearing.result (λ v e h. e h.of_items) c.bearing.ensures
