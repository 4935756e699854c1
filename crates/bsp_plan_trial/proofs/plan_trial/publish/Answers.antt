use Rattle.bsp_plan_trial.proofs.PlanLemmas.{tried}
use Rattle.bsp_plan_trial.proofs.plan_trial.publish.Goals as goal

pub returns : goal.returns
returns c = tried c.args.plan.now c.args.text.now c.in_ok-read.read c.extend.new.self c.extend.result c.in_ok-read.ensures c.extend.ensures.answers
