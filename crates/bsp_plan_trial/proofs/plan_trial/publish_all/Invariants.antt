use Rattle.std.proofs.Common.{take}
use Rattle.std.specs.List.{FoldsTo}
use Rattle.bsp_plan_trial.specs.Plans.{IsPublished, texts_of}
use Rattle.bsp_plan_trial.proofs.plan_trial.publish_all.Given as goal

abbrev pub invariant-loop-place : goal.invariant-loop-place
invariant-loop-place l = FoldsTo IsPublished l.initial.plan (texts_of (take l.place l.texts)) l.plan
