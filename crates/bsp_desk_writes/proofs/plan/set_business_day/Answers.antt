use Rattle.bsp_rows.specs.Rows.{Rows}
use Rattle.std.proofs.Common.{Some}
use Rattle.bsp_desk_writes.proofs.PlanLemmas.{day_served}
use Rattle.bsp_desk_writes.proofs.plan.set_business_day.Goals as goal

pub returns-clause-served : goal.returns-clause-served
returns-clause-served g c = λ t now last s h.
    let m = g.B.Book.means in
    let P : Rows → Type 0 = λ rows. m.holds c.set_day.new.self rows (Some last) in
    let done = c.in_ok-set_day.ensures in
    day_served P now c.args.day c.in_ok-set_day.field-0 c.plan_answer.result s (done.found t now last h) c.plan_answer.ensures (done.ok now last h)
