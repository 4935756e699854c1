use Rattle.std.proofs.Common.{ℤ, subst}
use Rattle.std.specs.Prelude.{pos, ◌≤ℤ◌}
use Rattle.bsp_plan_trial.proofs.PlanLemmas.{never_backwards}
use Rattle.bsp_plan_trial.proofs.plan_trial.set_day.Goals as goal

pub unreachable-requires : goal.unreachable-requires
unreachable-requires c =
    let IsAbove : ℤ → Type 0 = λ n. pos 10_957 ≤ℤ n in
    never_backwards c.args.plan.now c.args.day c.in-Err.field-0 (subst IsAbove c.number-number.ensures.value c.number-number.ensures.from) c.requires c.in-Err.ensures.answers.0
