use Rattle.bsp_statement.proofs.RemovalLemmas.{own_item, own_memo}
use Rattle.bsp_statement.proofs.law.tallies_shrink.Goals as goal

pub returns-clause-item : goal.returns-clause-item
returns-clause-item c = own_item

pub returns-clause-memo : goal.returns-clause-memo
returns-clause-memo c = own_memo
