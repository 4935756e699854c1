use Rattle.std.proofs.Common.{◌^◌, arith}
use Rattle.bsp_hot_records.proofs.SizeLemmas.{small_more}
use Rattle.bsp_hot_check.proofs.SizeLemmas.{small_at}
use Rattle.bsp_hot_check.proofs.model.Standing.take_code_totals.Goals as goal

pub has-allowed-requires : goal.has-allowed-requires
has-allowed-requires c =
    let at = c.args.self.now in
    rw c.of.ensures (small_more at.records (2 ^ 63) _ (omega arith) (small_at at.records at.office.codes c.args.next.now.code c.requires.small.codes))
