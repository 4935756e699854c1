use Rattle.std.proofs.Common.{ℕ, ◌==◌, List, map, sym, ap, ◌∙◌}
use Rattle.std.specs.FinMap.{entries}
use Rattle.std.specs.List.{filter}
use Rattle.bsp_maps.specs.Undo.{content}
use Rattle.bsp_maps.proofs.PickLemmas.{if_ok}
use Rattle.bsp_maps.proofs.PresentLemmas.{entries-present}
use Rattle.bsp_rows.specs.declared.keys.RangeKey.{RangeKey}
use Rattle.bsp_rows.specs.Rows.{range_cmp, range_of}
use Rattle.bsp_rows.proofs.KeyOrders.{range_total}
use Rattle.bsp_memory_tables.specs.RangeTables.{present_ranges}
use Rattle.bsp_memory_tables.proofs.RangeLemmas.{own_ranges}
use Rattle.bsp_memory_tables.proofs.ranges.RangeTable.of_agent.Goals as goal

pub returns : goal.returns
returns c =
    let ranges = content range_cmp c.args.self.now.rows in
    if_ok c.present_ranges.result (λ v e. e ∙ ap present_ranges (c.deref.ensures.value ∙ c.in_ok-entries.ensures)
    ∙ own_ranges c.args.agent (entries ranges)
    ∙ ap (λ (es : List (RangeKey × ℕ)). map range_of (filter (λ e. e.0.agent == c.args.agent) es)) (sym (entries-present range_total ranges))) c.present_ranges.ensures
