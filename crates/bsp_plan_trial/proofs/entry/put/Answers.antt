use Rattle.bsp_plan_trial.proofs.TextLemmas.{view_of_insert}
use Rattle.bsp_plan_trial.proofs.entry.put.Goals as goal

pub returns : goal.returns
returns c = rw (c.in_ok-insert.ensures.entries, view_of_insert c.args.table.now.entries c.in_ok-from_str.field-0 c.args.value, c.in_ok-from_str.ensures.ok)
