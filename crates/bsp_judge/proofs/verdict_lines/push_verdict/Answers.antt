use Rattle.bsp_judge.specs.Judged.{verdict_line}
use Rattle.bsp_judge.proofs.verdict_lines.push_verdict.Goals as goal

pub returns-in-Accepted : goal.returns-in-Accepted
unfolding verdict_line
returns-in-Accepted c = rw c.in-Accepted.is (rw (c.write_digits-number.ensures, c.digits.ensures.text) at c.push_fields.ensures)
