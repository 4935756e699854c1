use Rattle.bsp_ret.proofs.LawLemmas.{law}
use Rattle.bsp_ret.proofs.reading.fault_or_file.Goals as goal

pub returns : goal.returns
returns c = law
