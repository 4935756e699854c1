use Rattle.bsp_office_spec.proofs.UnmarkedAirline.{airlines_need_no_marks}
use Rattle.bsp_office_spec.proofs.UnmarkedInRuns.{agents_need_no_marks}
use Rattle.bsp_office_spec.proofs.unmarked.ledgers_need_no_marks.Goals as goal

pub returns-clause-agents : goal.returns-clause-agents
returns-clause-agents c = agents_need_no_marks

pub returns-clause-airlines : goal.returns-clause-airlines
returns-clause-airlines c = airlines_need_no_marks
