use Rattle.bsp_rows.proofs.PartLaws.{agent_enough, airline_enough}
use Rattle.bsp_rows.proofs.laws.parts_are_enough.Goals as goal

pub returns-clause-agent : goal.returns-clause-agent
returns-clause-agent c = agent_enough

pub returns-clause-airline : goal.returns-clause-airline
returns-clause-airline c = airline_enough
