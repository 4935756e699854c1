use Rattle.bsp_store_base.proofs.Std.{◌∙◌, filter, sym}
use Rattle.bsp_memory_rows.specs.Lookups.{has_rows}
use Rattle.bsp_store_base.specs.Columns.{tally_row}
use Rattle.bsp_store_load.proofs.TallyLemmas.{all_have, used_are}
use Rattle.bsp_store_load.proofs.tallies.are_tallies.Goals as goal

pub returns : goal.returns
returns c =
    let same = used_are tally_row c.args.table.now.rows c.map.result.now c.map.ensures c.are_rows_of.ensures.ordered in
    (λ t. c.are_rows_of.ensures.same t ∙ same, λ is. c.are_rows_of.ensures.whole (all_have (filter (λ e. has_rows e.1) c.map.result.now.entries)) (is ∙ sym same))
