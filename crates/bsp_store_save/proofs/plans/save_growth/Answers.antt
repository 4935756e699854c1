use Rattle.bsp_store_save.proofs.PlanLemmas.{its_commission_taxes, its_periods, its_rates, its_terms, meta_first, more_saves}
use Rattle.bsp_store_save.proofs.StepLemmas.{after, stops}
use Rattle.bsp_store_save.proofs.plans.save_growth.Goals as goal

pub returns-in_err-save_meta : goal.returns-in_err-save_meta
returns-in_err-save_meta g c = stops _ c.from_residual.ensures.1 (meta_first c.args.old.now c.day.ensures c.closed_count.ensures c.in_err-save_meta.ensures).err

pub returns-in_err-save_terms : goal.returns-in_err-save_terms
returns-in_err-save_terms g c = stops _ c.from_residual-in_err-save_terms.ensures.1 (after _ (meta_first c.args.old.now c.day.ensures c.closed_count.ensures c.in_ok-save_meta.ensures) c.in_err-save_terms.ensures (its_terms c.args.old.now)).err

pub returns-in_err-save_more : goal.returns-in_err-save_more
returns-in_err-save_more g c =
    stops _ c.from_residual-in_err-save_more.ensures.1 (after _ (after _ (meta_first c.args.old.now c.day.ensures c.closed_count.ensures c.in_ok-save_meta.ensures) c.in_ok-save_terms.ensures (its_terms c.args.old.now))
    (more_saves (λ c. c.rates) (λ l c. record c { rates = l }) c.rates-kept.ensures c.rates-all.ensures c.requires.rates _ c.in_err-save_more.ensures) (its_rates c.args.old.now)).err

pub returns-in_err-save_more-2 : goal.returns-in_err-save_more-2
returns-in_err-save_more-2 g c =
    stops _ c.from_residual-in_err-save_more-2.ensures.1 (after _ (after _ (after _ (meta_first c.args.old.now c.day.ensures c.closed_count.ensures c.in_ok-save_meta.ensures) c.in_ok-save_terms.ensures (its_terms c.args.old.now)) (more_saves (λ c. c.rates) (λ l c. record c { rates = l }) c.rates-kept.ensures c.rates-all.ensures c.requires.rates _ c.in_ok-save_more.ensures) (its_rates c.args.old.now))
    (more_saves (λ c. c.periods) (λ l c. record c { periods = l }) c.periods-kept.ensures c.periods-all.ensures c.requires.periods _ c.in_err-save_more-2.ensures) (its_periods c.args.old.now)).err

pub returns : goal.returns
returns g c =
    after _ (after _ (after _ (after _ (meta_first c.args.old.now c.day.ensures c.closed_count.ensures c.in_ok-save_meta.ensures) c.in_ok-save_terms.ensures (its_terms c.args.old.now)) (more_saves (λ c. c.rates) (λ l c. record c { rates = l }) c.rates-kept.ensures c.rates-all.ensures c.requires.rates _ c.in_ok-save_more.ensures) (its_rates c.args.old.now)) (more_saves (λ c. c.periods) (λ l c. record c { periods = l }) c.periods-kept.ensures c.periods-all.ensures c.requires.periods _ c.in_ok-save_more-2.ensures) (its_periods c.args.old.now))
    (more_saves (λ c. c.commission_taxes) (λ l c. record c { commission_taxes = l }) c.commission_taxes-kept.ensures c.commission_taxes-all.ensures c.requires.commission_taxes c.save_more-3.result c.save_more-3.ensures) (its_commission_taxes c.args.old.now)
