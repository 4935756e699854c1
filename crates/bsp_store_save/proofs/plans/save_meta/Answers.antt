use Rattle.std.proofs.Common.{ap, is_some, Some, sym, ◌∙◌}
use Rattle.bsp_store_save.specs.Saving.{meta_with}
use Rattle.bsp_store_save.proofs.StepLemmas.{as_it_is, ended, restated}
use Rattle.bsp_store_save.proofs.plans.save_meta.Goals as goal

pub returns-then-has_meta : goal.returns-then-has_meta
returns-then-has_meta g c = as_it_is (λ now met. let there = sym (met ∙ ap Some (c.has_meta.ensures.0 c.if-has_meta.true)) in λ i. record now { meta = there i })

pub returns : goal.returns
returns g c = restated c.put_meta.result (ended c.put_meta.result c.put_meta.ensures.ok c.put_meta.ensures.err) (λ now met. ap is_some met) (λ now met i. record now { meta = Some (meta_with (c.day.ensures i) (c.closed_count.ensures i)) })
