-- A plan that can be taken back to that of the last commit.
use Rattle.std.specs.Prelude.{◌≤◌, Bool, true, false, length, Result}
use Rattle.bsp_rows.specs.Change.{Change}
use Rattle.bsp_rows.specs.Published.{Published}
use Rattle.bsp_rows.specs.History.{Request, outcome}
use Rattle.bsp_rows.specs.PlanFault.{PlanFault}
use Rattle.bsp_rows.specs.SoundPlan.{Continues, IsSoundPlan}
use Rattle.bsp_rows.specs.Standing.{dated}
use Rattle.bsp_rows.specs.Writes.{change_or_fault, is_held, plan_left}
use Rattle.bsp_memory_rows.specs.declared.saved_plan.SavedPlan.{SavedPlan}
use Rattle.bsp_memory_rows.specs.declared.saved_plan.SavedPlan.TheVariants.{Same, Dated, Whole}

-- what a plan was at the last commit, by what is saved of it
abbrev pub plan_before : Published → SavedPlan → Published
plan_before plan Same = plan
plan_before plan (Dated day closed) = dated plan day closed
plan_before plan (Whole whole) = whole

-- what is saved fits the plan: on the saved day, with so many of its periods closed, it meets the rules of a plan; and it
-- continues one that is saved whole
abbrev pub IsSaved : Published → SavedPlan → Type 0
IsSaved plan Same = Unit {0}
IsSaved plan (Dated day closed) = (closed ≤ length plan.periods) × IsSoundPlan (dated plan day closed)
IsSaved plan (Whole whole) = Continues whole plan

-- nothing is saved, and a whole plan is
abbrev pub is_same : SavedPlan → Bool
is_same Same = true
is_same (Dated day closed) = false
is_same (Whole whole) = false

abbrev pub is_whole : SavedPlan → Bool
is_whole Same = false
is_whole (Dated day closed) = false
is_whole (Whole whole) = true

-- a plan, and what it was at the last commit
pub record TwoPlans : Type 0 where
  pub plan : Published
  pub before : Published

-- a plan's answer to a request
abbrev pub plan_answer : Request → Published → Result Change PlanFault
plan_answer request plan = change_or_fault (is_held plan request) (outcome plan request)

-- the plan after it
abbrev pub plan_after : Request → Published → Published
plan_after request plan = plan_left plan (outcome plan request)
