use Rattle.std.proofs.Common.{[], subst}
use Rattle.bsp_connection.specs.Exchanges.{RequestText}
use Rattle.bsp_connection.proofs.answering.headed.Goals as goal

pub returns-clause-headed : goal.returns-clause-headed
returns-clause-headed g c = record {
  read = c.requires;
  finds = subst (λ (q : RequestText). g.S.Service.reads.finds q.method q.target c.find-found.result) (c.message_of-message.ensures []) c.find-found.ensures;
}
