use Rattle.bsp_statement.proofs.TallyLemmas.{no_rows, own_item, other_item, own_memo, other_memo, tally_permuted, tally_postings_permuted}
use Rattle.bsp_statement.proofs.law.tallies_grow.Goals as goal

pub returns-clause-nothing : goal.returns-clause-nothing
returns-clause-nothing c = no_rows

pub returns-clause-item : goal.returns-clause-item
returns-clause-item c = own_item

pub returns-clause-other_item : goal.returns-clause-other_item
returns-clause-other_item c = other_item

pub returns-clause-memo : goal.returns-clause-memo
returns-clause-memo c = own_memo

pub returns-clause-other_memo : goal.returns-clause-other_memo
returns-clause-other_memo c = other_memo

pub returns-clause-order : goal.returns-clause-order
returns-clause-order c = tally_permuted

pub returns-clause-postings : goal.returns-clause-postings
returns-clause-postings c = tally_postings_permuted
