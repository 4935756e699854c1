use Rattle.bsp_desk.proofs.Alike.{callers_alike, one_reply}
use Rattle.bsp_desk.proofs.laws.replies_are_alike.Goals as goal

pub returns-clause-one : goal.returns-clause-one
returns-clause-one c = one_reply

pub returns-clause-callers : goal.returns-clause-callers
returns-clause-callers c = callers_alike
