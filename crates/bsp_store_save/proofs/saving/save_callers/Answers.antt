use Rattle.bsp_store_base.proofs.Std.{nat_cmp, subst, sym}
use Rattle.bsp_maps.specs.Undo.{before, content}
use Rattle.bsp_store_base.proofs.Entries.{Published}
use Rattle.bsp_store_load.specs.Plans.{IsSaved}
use Rattle.bsp_store_save.specs.Saving.{HasCallers}
use Rattle.bsp_store_save.proofs.StepLemmas.{after, stops, under}
use Rattle.bsp_store_save.proofs.TransactionLemmas.{airlines_save}
use Rattle.bsp_store_save.proofs.saving.save_callers.Goals as goal

pub save_airlines-requires : goal.save_airlines-requires
save_airlines-requires g c = subst (λ (p : Published). IsSaved p c.saved_plan.result.now) (sym c.plan.ensures) c.saved_plan.ensures.saved

pub returns-in_err-save_agents : goal.returns-in_err-save_agents
returns-in_err-save_agents g c = stops _ c.from_residual.ensures.1 (under (HasCallers c.args.tables.now) (rw c.agent_tokens.ensures at c.in_err-save_agents.ensures) (λ now has. has.agents)).err

pub returns-in_err-save_airlines : goal.returns-in_err-save_airlines
returns-in_err-save_airlines g c = stops _ c.from_residual-in_err-save_airlines.ensures.1 (after _ (under (HasCallers c.args.tables.now) (rw c.agent_tokens.ensures at c.in_ok-save_agents.ensures) (λ now has. has.agents)) (airlines_save c.saved_plan.result.now (before nat_cmp c.args.tables.now.airlines) (content nat_cmp c.args.tables.now.airlines) _ c.plan.ensures c.saved_plan.ensures.committed (rw c.airline_tokens.ensures at c.in_err-save_airlines.ensures)) (λ now has. has.airlines)).err

pub returns-in_err-save_ranges : goal.returns-in_err-save_ranges
returns-in_err-save_ranges g c = stops _ c.from_residual-in_err-save_ranges.ensures.1 (after _ (after _ (under (HasCallers c.args.tables.now) (rw c.agent_tokens.ensures at c.in_ok-save_agents.ensures) (λ now has. has.agents)) (airlines_save c.saved_plan.result.now (before nat_cmp c.args.tables.now.airlines) (content nat_cmp c.args.tables.now.airlines) _ c.plan.ensures c.saved_plan.ensures.committed (rw c.airline_tokens.ensures at c.in_ok-save_airlines.ensures)) (λ now has. has.airlines)) (rw c.range_table.ensures at c.in_err-save_ranges.ensures) (λ now has. has.ranges)).err

pub returns : goal.returns
returns g c = after _ (after _ (under (HasCallers c.args.tables.now) (rw c.agent_tokens.ensures at c.in_ok-save_agents.ensures) (λ now has. has.agents)) (airlines_save c.saved_plan.result.now (before nat_cmp c.args.tables.now.airlines) (content nat_cmp c.args.tables.now.airlines) _ c.plan.ensures c.saved_plan.ensures.committed (rw c.airline_tokens.ensures at c.in_ok-save_airlines.ensures)) (λ now has. has.airlines)) (rw c.range_table.ensures at c.in_ok-save_ranges.ensures) (λ now has. has.ranges)
