use Rattle.std.proofs.Common.{length}
use Rattle.bsp_store_open.proofs.old_versions.+are_tables.Given as goal

abbrev pub decreases-are_tables : goal.decreases-are_tables
decreases-are_tables l = length l.tables.now
