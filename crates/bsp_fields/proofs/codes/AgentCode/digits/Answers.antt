use Rattle.bsp_fields.proofs.CodeLemmas.{agent_reading-fixed_digits}
use Rattle.bsp_fields.proofs.codes.AgentCode.digits.Goals as goal

pub returns-clause-reads_back : goal.returns-clause-reads_back
returns-clause-reads_back c =
    rw (← c.self.view_is, c.write_digits.ensures) (agent_reading-fixed_digits c.self.inside.number c.self.invariant.0 c.self.invariant.1)
