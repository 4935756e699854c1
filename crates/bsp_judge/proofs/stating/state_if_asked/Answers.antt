use Rattle.std.proofs.Common.{refl}
use Rattle.bsp_judge.proofs.stating.state_if_asked.Goals as goal

pub returns-in_ok-text-in-Some-clause-stated : goal.returns-in_ok-text-in-Some-clause-stated
returns-in_ok-text-in-Some-clause-stated c = rw c.in-Some.is (c.in_ok-text-in-Some.text, refl, c.in_ok-text-in-Some.ensures.stated)
