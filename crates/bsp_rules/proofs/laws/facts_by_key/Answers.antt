use Rattle.bsp_rules.proofs.FoundLemmas.{found_facts}
use Rattle.bsp_rules.proofs.laws.facts_by_key.Goals as goal

pub returns : goal.returns
returns c = found_facts
