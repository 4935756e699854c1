use Rattle.std.proofs.Common.{subst}
use Rattle.bsp_store_base.proofs.Base.{after, form, HasContents, IsInside}
use Rattle.bsp_store_save.proofs.StepLemmas.{on_ok}
use Rattle.bsp_store_save.proofs.parts.TalliedKeyedTallyKeyTally.put.Goals as goal

pub returns-clause-ok : goal.returns-clause-ok
returns-clause-ok g c = on_ok _ _ c.put.result c.put.ensures.ok (λ it now last a b met stands inside.
    subst (λ value. HasContents form g.S.Store c.put.new.conn (after g.T.KeyedTable.table c.args.key value now) last a b × IsInside form g.S.Store c.put.new.conn) c.used.ensures (it now last a b met stands inside))
