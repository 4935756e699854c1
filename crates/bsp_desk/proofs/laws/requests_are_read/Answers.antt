use Rattle.bsp_desk.proofs.ListsRead.{each_is_read, lists_are_read}
use Rattle.bsp_desk.proofs.laws.requests_are_read.Goals as goal

pub returns-clause-each : goal.returns-clause-each
returns-clause-each c = each_is_read

pub returns-clause-lists : goal.returns-clause-lists
returns-clause-lists c = lists_are_read
