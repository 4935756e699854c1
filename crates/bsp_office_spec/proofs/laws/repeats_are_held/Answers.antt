use Rattle.bsp_office_spec.proofs.Held.{files_are_taken, repeats_are_held}
use Rattle.bsp_office_spec.proofs.HeldInRuns.{runs_hold}
use Rattle.bsp_office_spec.proofs.laws.repeats_are_held.Goals as goal

pub returns-clause-taken : goal.returns-clause-taken
returns-clause-taken c = files_are_taken

pub returns-clause-held : goal.returns-clause-held
returns-clause-held c = repeats_are_held

pub returns-clause-runs : goal.returns-clause-runs
returns-clause-runs c = runs_hold
