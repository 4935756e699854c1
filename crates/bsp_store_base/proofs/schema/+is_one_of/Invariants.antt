use Rattle.std.proofs.Common.{length}
use Rattle.bsp_store_base.proofs.schema.+is_one_of.Given as goal

abbrev pub decreases-is_one_of : goal.decreases-is_one_of
decreases-is_one_of l = length l.forms.now
