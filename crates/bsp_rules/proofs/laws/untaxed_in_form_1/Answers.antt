use Rattle.bsp_rules.proofs.TaxLemmas.{untaxed}
use Rattle.bsp_rules.proofs.laws.untaxed_in_form_1.Goals as goal

pub returns : goal.returns
returns c = untaxed
