use Rattle.std.proofs.Common.{sym, ◌∙◌}
use Rattle.bsp_store_save.proofs.StepLemmas.{as_it_is, ended, restated}
use Rattle.bsp_store_save.proofs.plans.save_terms.Goals as goal

pub returns-then-same_terms : goal.returns-then-same_terms
returns-then-same_terms g c = as_it_is (λ now met. let there = sym (met ∙ c.same_terms.ensures.0 c.if-same_terms.true) in λ i. record now { terms = there i })

pub returns : goal.returns
returns g c = restated c.put_terms.result (ended c.put_terms.result c.put_terms.ensures.ok c.put_terms.ensures.err) (λ now met. tt) (λ now met i. record now { terms = c.terms.ensures i })
