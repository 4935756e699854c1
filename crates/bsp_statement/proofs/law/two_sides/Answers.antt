use Rattle.std.proofs.Common.{◌∙◌, sym}
use Rattle.bsp_statement.proofs.SideLemmas.{agents_side, airlines_side, no_agent, no_airline}
use Rattle.bsp_statement.proofs.Permutations.{postings_permuted}
use Rattle.bsp_statement.proofs.law.two_sides.Goals as goal

pub returns-clause-one_sum : goal.returns-clause-one_sum
returns-clause-one_sum c = λ period items memos agents airlines once other_once have other_have.
    agents_side period items memos agents once have ∙ sym (airlines_side period items memos airlines other_once other_have)

pub returns-clause-agents : goal.returns-clause-agents
returns-clause-agents c = agents_side

pub returns-clause-airlines : goal.returns-clause-airlines
returns-clause-airlines c = airlines_side

pub returns-clause-no_agent : goal.returns-clause-no_agent
returns-clause-no_agent c = no_agent

pub returns-clause-no_airline : goal.returns-clause-no_airline
returns-clause-no_airline c = no_airline

pub returns-clause-order : goal.returns-clause-order
returns-clause-order c = postings_permuted
