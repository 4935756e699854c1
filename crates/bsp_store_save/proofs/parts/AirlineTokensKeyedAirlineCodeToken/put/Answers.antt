use Rattle.std.proofs.Common.{subst, ap, ◌∙◌}
use Rattle.bsp_store_base.proofs.Base.{entry_of, form, HasContents, IsInside, with_value}
use Rattle.bsp_store_save.proofs.StepLemmas.{on_ok}
use Rattle.bsp_store_save.proofs.parts.AirlineTokensKeyedAirlineCodeToken.put.Goals as goal

pub returns-clause-ok : goal.returns-clause-ok
returns-clause-ok g c = on_ok _ _ c.put.result c.put.ensures.ok (λ it now last a b met stands inside.
    subst (λ airline. HasContents form g.S.Store c.put.new.conn (record now { airlines = with_value c.args.key airline now.airlines }) last a b × IsInside form g.S.Store c.put.new.conn)
    (c.of-stored.ensures ∙ c.of-airline.ensures ∙ ap (λ place. entry_of place c.args.value) c.place_of.ensures.value) (it now last a b met stands inside))
