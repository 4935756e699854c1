use Rattle.std.proofs.Common.{sym, subst}
use Rattle.bsp_rows.specs.Rows.{Rows}
use Rattle.bsp_store_load.specs.Stored.{AreRowsOfPlan, IsFormedPlan}
use Rattle.bsp_store_load.proofs.compared.put_whole_plan.Goals as goal

pub returns-clause-plan : goal.returns-clause-plan
returns-clause-plan c = λ p tokens s formed are start none.
    let it = c.in_ok-put_rows.ensures.plan p tokens s formed are start none in (
      c.in_ok-are_rows_of_plan.ensures.whole (subst (λ (r : Rows). IsFormedPlan r.published r.airlines) (sym it.1) formed) (subst (λ (r : Rows). AreRowsOfPlan r.published r.airlines c.args.rows.now) (sym it.1) are),
      it.1,
    )
