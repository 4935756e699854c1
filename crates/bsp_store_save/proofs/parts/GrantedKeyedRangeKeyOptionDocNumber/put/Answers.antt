use Rattle.std.proofs.Common.{subst}
use Rattle.bsp_store_base.proofs.Base.{form, HasContents, IsInside, with_value}
use Rattle.bsp_store_save.proofs.StepLemmas.{on_ok}
use Rattle.bsp_store_save.proofs.parts.GrantedKeyedRangeKeyOptionDocNumber.put.Goals as goal

pub returns-clause-ok : goal.returns-clause-ok
returns-clause-ok g c = on_ok _ _ c.put.result c.put.ensures.ok (λ it now last a b met stands inside.
    subst (λ value. HasContents form g.S.Store c.put.new.conn (record now { ranges = with_value c.args.key value now.ranges }) last a b × IsInside form g.S.Store c.put.new.conn) c.flatten.ensures (it now last a b met stands inside))
