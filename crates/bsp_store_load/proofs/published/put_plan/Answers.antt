use Rattle.std.proofs.lemmas.Bool.{both_ways}
use Rattle.std.proofs.lemmas.Result.{on_ok_weaker}
use Rattle.bsp_store_load.proofs.CloseLemmas.{plan_alone}
use Rattle.bsp_store_load.proofs.published.put_plan.Goals as goal

pub returns-then-not-branch : goal.returns-then-not-branch
returns-then-not-branch c = record {
  changes = c.in_ok-publish_rows.ensures.changes;
  plan = λ p tokens s formed are listed start. absurd (both_ways _ c.if-not-branch.true (c.in_ok-publish_rows.ensures.plan p tokens s formed are listed start).0);
}

pub returns-clause-changes : goal.returns-clause-changes
returns-clause-changes c = on_ok_weaker c.move_on.result (plan_alone c.args.tables.now c.publish_rows.new.tables c.move_on.new.tables c.in_ok-publish_rows.ensures.changes) c.move_on.ensures.changes
