use Rattle.std.proofs.Common.{length}
use Rattle.bsp_store_open.proofs.old_versions.+are_indexes.Given as goal

abbrev pub decreases-are_indexes : goal.decreases-are_indexes
decreases-are_indexes l = length l.indexes.now
