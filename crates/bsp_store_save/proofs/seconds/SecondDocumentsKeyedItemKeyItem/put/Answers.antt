use Rattle.std.proofs.Common.{◌≡◌, sym, ◌∙◌}
use Rattle.bsp_store_base.proofs.Base.{Content, with_second}
use Rattle.bsp_store_save.specs.Seconds.{has_second}
use Rattle.bsp_store_save.proofs.SecondSteps.{none_put, second_put}
use Rattle.bsp_store_save.proofs.StepLemmas.{on_ok, stays}
use Rattle.bsp_store_save.proofs.seconds.SecondDocumentsKeyedItemKeyItem.put.Goals as goal

pub returns-in-Some-clause-ok : goal.returns-in-Some-clause-ok
returns-in-Some-clause-ok g c = on_ok _ _ c.put.result c.put.ensures.ok (λ made.
    second_put c.args.key c.args.value c.args.is_there g.S.Store c.args.conn.now c.put.new.conn c.in-Some.ticket c.second_in.result c.second_in.ensures made (sym c.of.ensures ∙ c.in-Some.is))

pub returns-in-None-clause-ok : goal.returns-in-None-clause-ok
returns-in-None-clause-ok g c =
    stays c.args.conn.now (λ (now : Content). has_second c.args.key now.seconds ≡ c.args.is_there) (λ (now : Content). record now { seconds = with_second c.args.key c.args.value now.seconds })
    (none_put c.args.key c.args.value c.args.is_there (sym c.of.ensures ∙ c.in-None.is))
