use Rattle.bsp_office_spec.proofs.Held.{one_owner}
use Rattle.bsp_office_spec.proofs.laws.numbers_have_one_owner.Goals as goal

pub returns : goal.returns
returns c = one_owner
