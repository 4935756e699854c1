use Rattle.bsp_maps.proofs.PickLemmas.{if_ok}
use Rattle.bsp_memory_rows.proofs.tables.Tables.items_with_number.Goals as goal

pub returns : goal.returns
returns c = if_ok c.with_number.result (λ v e h. e h.of_items) c.with_number.ensures
