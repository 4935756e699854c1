use Rattle.bsp_plan_trial.specs.PlanLines.{tax_line}
use Rattle.bsp_plan_trial.proofs.plan_lines.CommissionTaxLined.push_line.Goals as goal

pub returns : goal.returns
unfolding tax_line
returns c = rw (c.write_text.ensures.text, c.as_bytes.ensures.value, c.format.ensures.text) at c.push_fields.ensures
