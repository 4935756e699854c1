-- Why a RET file is not judged.
use Rattle.std.specs.Prelude.{◌≡◌, ◌⊎◌, ℕ, ◌+◌, List, length, None, Some}
use Rattle.std.specs.List.{FoldsTo}
use Rattle.bsp_calendar.specs.Published.{period_of}
use Rattle.bsp_calendar.specs.declared.entries.Period.{Period}
use Rattle.bsp_ret.specs.Reading.{no_memory}
use Rattle.bsp_ret.specs.declared.model.RetFault.{RetFault}
use Rattle.bsp_messages.specs.declared.refusal.RequestRefusal.{RequestRefusal}
use Rattle.bsp_rows.specs.Rows.{Rows, no_rows}
use Rattle.bsp_judge.specs.Asked.{HasFault, HasRetFault, IsRefused, Takes, Task, place_of, statement_tasks, tasks}
use Rattle.bsp_judge.specs.Asked.Task.{Report}
use Rattle.bsp_plan_trial.specs.Turns.{StopsAt}
use Rattle.bsp_judge.specs.declared.setup.JudgeFault.{JudgeFault}
use Rattle.bsp_judge.specs.declared.setup.JudgeFault.TheVariants.{Refused, Earlier, File, UnknownPeriod, Memory}
use Rattle.bsp_judge.specs.declared.setup.Setup.{Setup}
use Rattle.bsp_judge.specs.declared.setup.Step.{Step}
use Rattle.bsp_judge.specs.declared.setup.Step.TheVariants.{Closed}

-- this is the first fault of the text, or there was no memory
abbrev pub IsRetFaultOf : List ℕ → RetFault → Type 0
IsRetFaultOf text fault = (fault ≡ no_memory) ⊎ HasRetFault text fault

-- ---- parts of a trial

-- the step has this refusal, or there was no memory
abbrev pub IsRefusedAs : Step → RequestRefusal → JudgeFault → Type 0
IsRefusedAs step refusal (Refused refused) = (refused.step ≡ step) × (refused.refusal ≡ refusal)
IsRefusedAs step refusal Memory = Unit {0}
IsRefusedAs step refusal _ = ⊥

-- this stops the task at a place of the trial: its refusal, or the fault of its file
abbrev pub IsStopOf : Setup → ℕ → Rows → Task → JudgeFault → Type 0
IsStopOf s place rows task (Refused refused) = (place_of s refused.step ≡ place) × IsRefused refused.refusal rows task
IsStopOf s place rows task (Earlier i fault) = (place_of s (Closed i) ≡ place) × HasFault fault rows task
IsStopOf s place rows task (File fault) = ⊥
IsStopOf s place rows task UnknownPeriod = ⊥
IsStopOf s place rows task Memory = Unit {0}

-- this stops one of these tasks, which begin at a place of the trial; those before it pass
abbrev pub IsStopIn : Setup → ℕ → Rows → List Task → JudgeFault → Type 0
IsStopIn s begin rows these (Refused refused) = (i : ℕ) × (place_of s refused.step ≡ begin + i) × StopsAt Takes (IsRefused refused.refusal) rows these i
IsStopIn s begin rows these (Earlier place fault) = (i : ℕ) × (place_of s (Closed place) ≡ begin + i) × StopsAt Takes (HasFault fault) rows these i
IsStopIn s begin rows these (File fault) = ⊥
IsStopIn s begin rows these UnknownPeriod = ⊥
IsStopIn s begin rows these Memory = Unit {0}

-- ---- before the file

-- a request before the file stops the trial, or the memory does
abbrev pub IsUnready : Setup → JudgeFault → Type 0
IsUnready s (Refused refused) = StopsAt Takes (IsRefused refused.refusal) no_rows (tasks s) (place_of s refused.step)
IsUnready s (Earlier place fault) = StopsAt Takes (HasFault fault) no_rows (tasks s) (place_of s (Closed place))
IsUnready s (File fault) = ⊥
IsUnready s UnknownPeriod = ⊥
IsUnready s Memory = Unit {0}

-- ---- after the file

-- all that comes before passes, and the file has its verdicts and leaves these rows
pub record IsLeft (s : Setup) (text : List ℕ) (left : Rows) : Type 0 where
  pub ready : Rows
  pub is_ready : FoldsTo Takes no_rows (tasks s) ready
  pub filed : Takes ready (Report s.agent text) left

-- Over these rows the plan has not the period of a statement. Or it has, and a request for the statement stops the trial. Or the
-- memory does.
abbrev pub IsUnstatedOver : Setup → Rows → ℕ → JudgeFault → Type 0
IsUnstatedOver s left period (Refused refused) =
    (q : Period) × (period_of left.published period ≡ Some q) × IsStopIn s (length (tasks s) + 1) left (statement_tasks s.agent left period) (Refused refused)
IsUnstatedOver s left period UnknownPeriod = period_of left.published period ≡ None
IsUnstatedOver s left period Memory = Unit {0}
IsUnstatedOver s left period fault = ⊥

-- so it is of the period that is asked for
pub record IsUnstated (s : Setup) (text : List ℕ) (fault : JudgeFault) : Type 0 where
  pub left : Rows
  pub is_left : IsLeft s text left
  pub period : ℕ
  pub asked : s.statement ≡ Some period
  pub stops : IsUnstatedOver s left period fault

-- ---- the trial

-- The requests before a place pass. The one there is refused, or its file has this first fault. Or the file that is judged
-- has it. Or the period of the statement is not in the plan.
abbrev pub IsUnjudged : Setup → List ℕ → JudgeFault → Type 0
IsUnjudged s text (Refused refused) = IsUnready s (Refused refused) ⊎ IsUnstated s text (Refused refused)
IsUnjudged s text (Earlier place fault) = IsUnready s (Earlier place fault)
IsUnjudged s text (File fault) = HasRetFault text fault
IsUnjudged s text UnknownPeriod = IsUnstated s text UnknownPeriod
IsUnjudged s text Memory = Unit {0}
