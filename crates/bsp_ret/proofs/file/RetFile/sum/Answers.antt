use Rattle.bsp_ret.proofs.TrailerLemmas.{told_sum}
use Rattle.bsp_ret.proofs.file.RetFile.sum.Goals as goal

pub returns : goal.returns
returns c =
    let stands = c.trailer_line.ensures.stands in
    told_sum stands.0 c.args.self.now c.trailer_line.result.now c.told_sum.result stands.1 c.trailer_line.ensures.value c.told_sum.ensures
