use Rattle.bsp_rules.proofs.MeaningLemmas.{accepted_is_passed, agent_is_reporters, canx_free, held_is_found, refused_first, tickets_live, wrong_agent_first}
use Rattle.bsp_rules.proofs.laws.meaning_of_verdicts.Goals as goal

pub returns-clause-accepted : goal.returns-clause-accepted
returns-clause-accepted c = accepted_is_passed

pub returns-clause-held : goal.returns-clause-held
returns-clause-held c = held_is_found

pub returns-clause-wrong_agent : goal.returns-clause-wrong_agent
returns-clause-wrong_agent c = wrong_agent_first

pub returns-clause-agent : goal.returns-clause-agent
returns-clause-agent c = agent_is_reporters

pub returns-clause-refused : goal.returns-clause-refused
returns-clause-refused c = refused_first

pub returns-clause-tickets : goal.returns-clause-tickets
returns-clause-tickets c = tickets_live

pub returns-clause-canx : goal.returns-clause-canx
returns-clause-canx c = canx_free
