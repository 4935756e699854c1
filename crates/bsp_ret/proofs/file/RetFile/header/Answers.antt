use Rattle.bsp_ret.proofs.GroupLemmas.{wide_length}
use Rattle.bsp_ret.proofs.file.RetFile.header.Goals as goal

pub of-requires : goal.of-requires
of-requires c = wide_length c.self.inside.header.now c.self.invariant.1.header.wide
