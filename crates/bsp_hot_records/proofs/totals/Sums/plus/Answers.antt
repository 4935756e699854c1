use Rattle.std.proofs.Common.{refl}
use Rattle.bsp_hot_records.specs.Sums.{add}
use Rattle.bsp_hot_records.proofs.SizeLemmas.{added}
use Rattle.bsp_hot_records.proofs.totals.Sums.plus.Goals as goal

pub returns : goal.returns
unfolding add
returns c =
    let x = c.args.self in
    let y = c.args.other in
    let one = c.requires.small in
    let other = c.requires.also_small in
    rw (added x.cash y.cash one.cash other.cash, added x.credit y.credit one.credit other.credit, added x.commission y.commission one.commission other.commission, added x.tax y.tax one.tax other.tax) refl
