use Rattle.bsp_ret.proofs.TrailerLemmas.{told_records}
use Rattle.bsp_ret.proofs.file.RetFile.record_count.Goals as goal

pub returns : goal.returns
returns c =
    let stands = c.trailer_line.ensures.stands in
    told_records stands.0 c.args.self.now c.trailer_line.result.now c.told_records.result stands.1 c.trailer_line.ensures.value c.told_records.ensures
