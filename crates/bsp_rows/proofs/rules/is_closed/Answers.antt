use Rattle.std.proofs.Common.{◌≡◌, Bool, refl, sym, ◌∙◌, Option, None, Some}
use Rattle.std.specs.Prelude.{option_map}
use Rattle.bsp_calendar.specs.Published.{is_closed, period_of}
use Rattle.bsp_calendar.specs.declared.entries.Period.{Period}
use Rattle.bsp_rows.proofs.PlanRuleLemmas.{not_closed}
use Rattle.bsp_rows.proofs.rules.is_closed.Goals as goal

no_period : (f : Period → Period × Bool) (o : Option Period) → option_map f o ≡ None → o ≡ None
no_period f None h = refl
no_period f (Some q) h = absurd (cc h)

pub returns-in-None : goal.returns-in-None
returns-in-None c = not_closed c.args.plan.now c.args.code c.meets_rules.ensures (no_period (λ q. (q, is_closed c.args.plan.now c.args.code)) (period_of c.args.plan.now c.args.code) (sym c.period.ensures ∙ c.in-None.is))
