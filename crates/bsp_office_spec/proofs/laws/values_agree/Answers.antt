use Rattle.bsp_office_spec.proofs.Values.{runs_agree}
use Rattle.bsp_office_spec.proofs.laws.values_agree.Goals as goal

pub returns : goal.returns
returns c = runs_agree
