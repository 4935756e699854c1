use Rattle.bsp_plan_trial.specs.PlanLines.{period_line}
use Rattle.bsp_plan_trial.proofs.plan_lines.PeriodLined.push_line.Goals as goal

pub returns : goal.returns
unfolding period_line
returns c = rw (c.digits.ensures.text, c.write_text.ensures.text, c.write_text-2.ensures.text, c.write_text-3.ensures.text) at c.push_fields.ensures
