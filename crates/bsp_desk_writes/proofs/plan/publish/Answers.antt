use Rattle.bsp_rows.specs.Rows.{Rows}
use Rattle.std.proofs.Common.{Some}
use Rattle.bsp_desk_writes.proofs.PlanLemmas.{text_served}
use Rattle.bsp_desk_writes.proofs.plan.publish.Goals as goal

pub returns-in_ok-publish-in-Ok-clause-served : goal.returns-in_ok-publish-in-Ok-clause-served
returns-in_ok-publish-in-Ok-clause-served g c = λ read of t now last s h.
    let m = g.B.Book.means in
    let P : Rows → Type 0 = λ rows. m.holds c.publish.new.self rows (Some last) in
    let done = c.in_ok-publish-in-Ok.ensures in
    text_served P now c.args.text.now read c.in-Ok.entries c.in_ok-publish-in-Ok.field-0 c.plan_answer.result s of c.in-Ok.ensures (done.found t now last h) c.plan_answer.ensures (done.ok now last h)
