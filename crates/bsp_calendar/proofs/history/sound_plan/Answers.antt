use Rattle.bsp_calendar.proofs.MadeLemmas.{made_again}
use Rattle.bsp_calendar.proofs.SoundLemmas.{opening_sound, sound_kept}
use Rattle.bsp_calendar.proofs.history.sound_plan.Goals as goal

pub returns-clause-opening : goal.returns-clause-opening
returns-clause-opening c = opening_sound

pub returns-clause-kept : goal.returns-clause-kept
returns-clause-kept c = sound_kept

pub returns-clause-made_again : goal.returns-clause-made_again
returns-clause-made_again c = made_again
