use Rattle.bsp_messages.proofs.verdicts.push_outcome.Goals as goal

pub returns-in-Accepted : goal.returns-in-Accepted
returns-in-Accepted c = rw c.in-Accepted.is (rw c.digits.ensures.text at c.push_parts.ensures)

pub returns-in-Held : goal.returns-in-Held
returns-in-Held c = rw c.in-Held.is (rw c.digits-in-Held.ensures.text at c.push_parts-in-Held.ensures)
