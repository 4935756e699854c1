use Rattle.bsp_store_base.proofs.Std.{subst, sym, ◌≡◌}
use Rattle.bsp_store_base.proofs.Entries.{Published}
use Rattle.bsp_store_load.specs.Contents.{content_before}
use Rattle.bsp_store_load.specs.MemoryRowsTables.{rows_of}
use Rattle.bsp_store_load.specs.Plans.{IsSaved}
use Rattle.bsp_store_save.proofs.StepLemmas.{after, stops, under}
use Rattle.bsp_store_save.proofs.TransactionLemmas.{has_callers, has_documents, has_plan, plan_saves}
use Rattle.bsp_store_save.proofs.saving.save_tables.Goals as goal

pub save_plan-requires : goal.save_plan-requires
save_plan-requires g c = subst (λ (p : Published). IsSaved p c.saved_plan.result.now) (sym c.plan.ensures) c.saved_plan.ensures.saved

pub returns-in_err-save_plan : goal.returns-in_err-save_plan
returns-in_err-save_plan g c = stops _ c.from_residual.ensures.1 (under (λ now. now ≡ content_before c.args.tables.now) (plan_saves c.saved_plan.result.now c.plan.ensures c.saved_plan.ensures.committed c.in_err-save_plan.ensures) (has_plan c.args.tables.now)).err

pub returns-in_err-save_callers : goal.returns-in_err-save_callers
returns-in_err-save_callers g c = stops _ c.from_residual-in_err-save_callers.ensures.1 (after _ (under (λ now. now ≡ content_before c.args.tables.now) (plan_saves c.saved_plan.result.now c.plan.ensures c.saved_plan.ensures.committed c.in_ok-save_plan.ensures) (has_plan c.args.tables.now)) c.in_err-save_callers.ensures (has_callers c.args.tables.now (rows_of c.args.tables.now).published)).err

pub returns-in_err-save_documents : goal.returns-in_err-save_documents
returns-in_err-save_documents g c = stops _ c.from_residual-in_err-save_documents.ensures.1 (after _ (after _ (under (λ now. now ≡ content_before c.args.tables.now) (plan_saves c.saved_plan.result.now c.plan.ensures c.saved_plan.ensures.committed c.in_ok-save_plan.ensures) (has_plan c.args.tables.now)) c.in_ok-save_callers.ensures (has_callers c.args.tables.now (rows_of c.args.tables.now).published)) c.in_err-save_documents.ensures (has_documents c.args.tables.now (rows_of c.args.tables.now).published)).err

pub returns : goal.returns
returns g c = after _ (after _ (under (λ now. now ≡ content_before c.args.tables.now) (plan_saves c.saved_plan.result.now c.plan.ensures c.saved_plan.ensures.committed c.in_ok-save_plan.ensures) (has_plan c.args.tables.now)) c.in_ok-save_callers.ensures (has_callers c.args.tables.now (rows_of c.args.tables.now).published)) c.in_ok-save_documents.ensures (has_documents c.args.tables.now (rows_of c.args.tables.now).published)
