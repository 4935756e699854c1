use Rattle.std.proofs.Common.{◌^◌}
use Rattle.bsp_store_load.proofs.PlanReads.{places_fit}
use Rattle.bsp_store_load.proofs.plan.are_placed.Goals as goal

pub returns-clause-whole : goal.returns-clause-whole
returns-clause-whole g c = λ few. c.are_placed_rows_of.ensures.whole (places_fit g.T.RowOf.has_row (2 ^ 63) c.requires c.args.values.now few)
