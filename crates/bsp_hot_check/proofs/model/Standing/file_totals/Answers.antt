use Rattle.std.proofs.Common.{sym, ◌∙◌}
use Rattle.bsp_hot_check.proofs.StateLemmas.{ended_found, unended_faulty}
use Rattle.bsp_hot_check.proofs.model.Standing.file_totals.Goals as goal

pub returns-then-is_ended-clause-found : goal.returns-then-is_ended-clause-found
returns-then-is_ended-clause-found c = λ ls is. rw c.totals.ensures (ended_found ls c.args.self.now (sym c.is_ended.ensures ∙ c.if-is_ended.true) is)

pub returns-else-is_ended-clause-missing : goal.returns-else-is_ended-clause-missing
returns-else-is_ended-clause-missing c = λ ls is. unended_faulty ls c.args.self.now (sym c.is_ended.ensures ∙ c.if-is_ended.false) is
