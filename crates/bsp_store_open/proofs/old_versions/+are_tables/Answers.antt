-- The first table is at its place.
use Rattle.bsp_store_base.specs.Schema.{our_tables}
use Rattle.bsp_store_open.proofs.Schemas.{from_place}
use Rattle.bsp_store_open.proofs.old_versions.+are_tables.Goals as goal

pub returns-then-is_at : goal.returns-then-is_at
returns-then-is_at t c = from_place our_tables c.args.tables.now c.args.at c.table-item.result c.in-len1-up.len_at_least c.table-item.is (c.is_at.ensures.0 c.if-is_at.true) c.are_tables.result c.are_tables.ensures
