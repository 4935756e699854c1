use Rattle.std.proofs.Common.{sym, ap, ◌∙◌}
use Rattle.bsp_maps.specs.Undo.{content}
use Rattle.bsp_maps.proofs.PresentLemmas.{flat, get-present}
use Rattle.bsp_rows.specs.Rows.{range_cmp}
use Rattle.bsp_rows.proofs.KeyOrders.{range_total}
use Rattle.bsp_memory_tables.proofs.ranges.RangeTable.get.Goals as goal

pub returns-in-None : goal.returns-in-None
returns-in-None c = ap flat (sym c.in-None.is ∙ c.get.ensures) ∙ sym (get-present range_total (content range_cmp c.args.self.now.rows) c.args.key)

pub returns-in-Some : goal.returns-in-Some
returns-in-Some c = ap flat (sym c.in-Some.is ∙ c.get.ensures) ∙ sym (get-present range_total (content range_cmp c.args.self.now.rows) c.args.key)
