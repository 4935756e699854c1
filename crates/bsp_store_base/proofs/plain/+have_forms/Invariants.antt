use Rattle.std.proofs.Common.{length}
use Rattle.bsp_store_base.proofs.plain.+have_forms.Given as goal

abbrev pub decreases-have_forms : goal.decreases-have_forms
decreases-have_forms g l = length l.items.now
