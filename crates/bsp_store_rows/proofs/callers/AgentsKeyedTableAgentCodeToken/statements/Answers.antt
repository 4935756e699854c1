use Rattle.std.proofs.Common.{refl}
use Rattle.bsp_store_base.proofs.Sqlite.{everything, understood}
use Rattle.bsp_store_rows.specs.Tables.{agents_map}
use Rattle.bsp_store_rows.proofs.Tables.{agents_lawful}
use Rattle.bsp_store_rows.proofs.Orders.{agents_rise, meant}
use Rattle.bsp_store_rows.proofs.callers.AgentsKeyedTableAgentCodeToken.statements.Goals as goal

pub returns-clause-meant : goal.returns-clause-meant
unfolding understood everything
returns-clause-meant c = meant agents_map agents_lawful agents_rise _ (refl, (refl, refl)) (refl, (refl, refl)) (refl, (refl, refl)) (refl, (refl, refl)) refl (λ trees r. refl) (λ trees r. refl)
