use Rattle.bsp_rows.proofs.KeptLemmas.{no_rows_sound, accepted_sound, accepted_free, request_sound, close_sound, close_terms, billing_sound, issue_sound_rows, action_sound, range_sound, withdrawal_sound, agent_sound, airline_sound}
use Rattle.bsp_rows.proofs.laws.sound_is_kept.Goals as goal

pub returns-clause-no_rows : goal.returns-clause-no_rows
returns-clause-no_rows c = no_rows_sound

pub returns-clause-accepted : goal.returns-clause-accepted
returns-clause-accepted c = accepted_sound

pub returns-clause-free : goal.returns-clause-free
returns-clause-free c = accepted_free

pub returns-clause-request : goal.returns-clause-request
returns-clause-request c = request_sound

pub returns-clause-close : goal.returns-clause-close
returns-clause-close c = close_sound

pub returns-clause-close_terms : goal.returns-clause-close_terms
returns-clause-close_terms c = close_terms

pub returns-clause-billing : goal.returns-clause-billing
returns-clause-billing c = billing_sound

pub returns-clause-issue : goal.returns-clause-issue
returns-clause-issue c = issue_sound_rows

pub returns-clause-action : goal.returns-clause-action
returns-clause-action c = action_sound

pub returns-clause-range : goal.returns-clause-range
returns-clause-range c = range_sound

pub returns-clause-withdrawal : goal.returns-clause-withdrawal
returns-clause-withdrawal c = withdrawal_sound

pub returns-clause-agent : goal.returns-clause-agent
returns-clause-agent c = agent_sound

pub returns-clause-airline : goal.returns-clause-airline
returns-clause-airline c = airline_sound
