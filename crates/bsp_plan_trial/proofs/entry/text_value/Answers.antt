use Rattle.bsp_plan_trial.proofs.entry.text_value.Goals as goal

pub unreachable-requires : goal.unreachable-requires
unreachable-requires c = c.in_default.ensures.cases.0 c.requires
