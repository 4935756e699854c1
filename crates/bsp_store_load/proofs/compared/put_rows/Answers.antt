use Rattle.bsp_store_base.proofs.Std.{◌∙◌, both_ways}
use Rattle.bsp_memory_rows.specs.Tables.{rows_of}
use Rattle.bsp_store_load.proofs.AirlineReads.{airlines_read}
use Rattle.bsp_store_load.proofs.CloseLemmas.{both_alone, plan_and_none, tokens_put}
use Rattle.bsp_store_load.proofs.PlanReads.{found_is, not_none}
use Rattle.bsp_store_load.proofs.compared.put_rows.Goals as goal

pub returns-in_default-clause-plan : goal.returns-in_default-clause-plan
returns-in_default-clause-plan c = λ p tokens s formed are start none.
    absurd (not_none _ c.in_ok-airlines.field-0 (c.in_ok-airlines.ensures _ (airlines_read p tokens formed c.deref.result.now (c.deref.ensures.value ∙ are.airlines))) c.in_default.is)

pub returns-then-not-branch-clause-puts : goal.returns-then-not-branch-clause-puts
returns-then-not-branch-clause-puts c = plan_and_none c.args.tables.now c.put_plan.new.tables c.in_ok-put_plan.ensures.changes

pub returns-then-not-branch-clause-plan : goal.returns-then-not-branch-clause-plan
returns-then-not-branch-clause-plan c = λ p tokens s formed are start none.
    let listed = found_is _ c.in_ok-airlines.field-0 (c.in_ok-airlines.ensures _ (airlines_read p tokens formed c.deref.result.now (c.deref.ensures.value ∙ are.airlines))) c.in-Some.airlines c.in-Some.is in
    let it = c.in_ok-put_plan.ensures.plan p tokens s formed are (c.deref-2.ensures.value ∙ listed) start in
    absurd (both_ways _ c.if-not-branch.true it.0)

pub returns-clause-puts : goal.returns-clause-puts
returns-clause-puts c = both_alone c.args.tables.now c.put_plan.new.tables c.put_tokens.new.tables c.in_ok-put_plan.ensures.changes c.in_ok-put_tokens.ensures.changes

pub returns-clause-plan : goal.returns-clause-plan
returns-clause-plan c = λ p tokens s formed are start none.
    let listed = found_is _ c.in_ok-airlines.field-0 (c.in_ok-airlines.ensures _ (airlines_read p tokens formed c.deref.result.now (c.deref.ensures.value ∙ are.airlines))) c.in-Some.airlines c.in-Some.is in
    let it = c.in_ok-put_plan.ensures.plan p tokens s formed are (c.deref-2.ensures.value ∙ listed) start in
    tokens_put p tokens (rows_of c.args.tables.now) (rows_of c.put_plan.new.tables) (rows_of c.put_tokens.new.tables) it.1 c.in_ok-put_tokens.ensures.changes.others none
    (λ no. c.in_ok-put_tokens.ensures.tokens p.airlines tokens no (c.deref-3.ensures.value ∙ listed))
