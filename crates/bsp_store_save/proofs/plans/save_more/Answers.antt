use Rattle.bsp_store_save.proofs.plans.save_more.Goals as goal

pub returns : goal.returns
returns g c = record { ok = c.add_all.ensures.ok; err = c.add_all.ensures.err }
