use Rattle.bsp_rows.proofs.CountLemmas.{facts_by_key, facts_without_target, items_distinct}
use Rattle.bsp_rows.proofs.laws.facts_from_rows.Goals as goal

pub returns-clause-facts : goal.returns-clause-facts
returns-clause-facts c = facts_by_key

pub returns-clause-no_target : goal.returns-clause-no_target
returns-clause-no_target c = facts_without_target

pub returns-clause-distinct : goal.returns-clause-distinct
returns-clause-distinct c = items_distinct
