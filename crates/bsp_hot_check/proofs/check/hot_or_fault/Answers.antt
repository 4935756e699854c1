use Rattle.bsp_hot_check.proofs.LawLemmas.{law}
use Rattle.bsp_hot_check.proofs.check.hot_or_fault.Goals as goal

pub returns : goal.returns
returns c = law
