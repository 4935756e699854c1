use Rattle.std.proofs.Common.{refl}
use Rattle.bsp_store_open.proofs.OpeningLemmas.{not_other}
use Rattle.bsp_store_open.proofs.reading.refusal_of.Goals as goal

pub returns-in-Ok-expect_version : goal.returns-in-Ok-expect_version
returns-in-Ok-expect_version c = rw c.in-Ok.is (not_other _ (rw c.deref.ensures.value at c.in-Ok-expect_version.ensures.ok), refl)
