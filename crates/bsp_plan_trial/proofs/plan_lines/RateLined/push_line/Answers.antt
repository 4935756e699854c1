use Rattle.bsp_plan_trial.specs.PlanLines.{rate_line}
use Rattle.bsp_plan_trial.proofs.plan_lines.RateLined.push_line.Goals as goal

pub returns : goal.returns
unfolding rate_line
returns c = rw (c.digits.ensures.text, c.write_text.ensures.text, c.as_bytes.ensures.value, c.format.ensures.text) at c.push_fields.ensures
