use Rattle.std.proofs.Common.{refl}
use Rattle.bsp_store_open.proofs.LoadedLemmas.{none_left, one_left}
use Rattle.bsp_store_open.proofs.OpeningLemmas.{denies, gives, of_table, stops}
use Rattle.bsp_store_open.proofs.tables.load.Goals as goal

pub returns-in_err-left : goal.returns-in_err-left
returns-in_err-left g c = stops c.from_residual.ensures.1 (of_table c.in_err-left.ensures) (λ fault trees none. absurd none)

pub returns-then-is_some : goal.returns-then-is_some
returns-then-is_some g c =
    let left = one_left c.in_ok-left.left c.is_some.result c.is_some.ensures c.if-is_some.true in
    denies _ refl (of_table c.in_ok-left.ensures) (λ is trees loaded. (refl, (left.0, rw left.1 at loaded)))

pub returns : goal.returns
returns g c =
    let none = none_left c.in_ok-left.left c.is_some.result c.is_some.ensures c.if-is_some.false in
    gives (of_table c.in_ok-left.ensures) (λ done. c.in_ok-left.ensures.holds) (λ trees loaded. rw none at loaded)
