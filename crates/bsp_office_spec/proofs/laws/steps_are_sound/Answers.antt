use Rattle.bsp_office_spec.proofs.FitLemmas.{read_fits}
use Rattle.bsp_office_spec.proofs.Runs.{run_sound, sound_kept}
use Rattle.bsp_office_spec.proofs.Unchanged.{unchanged}
use Rattle.bsp_office_spec.proofs.laws.steps_are_sound.Goals as goal

pub returns-clause-sound : goal.returns-clause-sound
returns-clause-sound c = sound_kept

pub returns-clause-refusals : goal.returns-clause-refusals
returns-clause-refusals c = unchanged

pub returns-clause-runs : goal.returns-clause-runs
returns-clause-runs c = run_sound

pub returns-clause-fit : goal.returns-clause-fit
returns-clause-fit c = read_fits
