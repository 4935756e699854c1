use Rattle.bsp_ret.proofs.GroupLemmas.{wide_length}
use Rattle.bsp_ret.proofs.file.RetFile.trailer_line.Goals as goal

pub returns-clause-fits : goal.returns-clause-fits
returns-clause-fits c =
    let ret = c.self.invariant.1 in
    (wide_length c.self.inside.trailer.now ret.trailer.wide, ret.trailer.fields)
