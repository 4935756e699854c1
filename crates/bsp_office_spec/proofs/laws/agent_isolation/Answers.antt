use Rattle.bsp_office_spec.proofs.Isolated.{alike, isolated, other_forbidden, own_answer}
use Rattle.bsp_office_spec.proofs.Seen.{seen}
use Rattle.bsp_office_spec.proofs.laws.agent_isolation.Goals as goal

pub returns-clause-own : goal.returns-clause-own
returns-clause-own c = own_answer

pub returns-clause-others : goal.returns-clause-others
returns-clause-others c = other_forbidden

pub returns-clause-seen : goal.returns-clause-seen
returns-clause-seen c = seen

pub returns-clause-isolated : goal.returns-clause-isolated
returns-clause-isolated c = isolated

pub returns-clause-alike : goal.returns-clause-alike
returns-clause-alike c = alike
