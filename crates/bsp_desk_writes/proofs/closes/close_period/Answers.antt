use Rattle.std.proofs.Common.{Some, rules, sym, ◌∙◌}
use Rattle.bsp_calendar.specs.History.Request.{Close}
use Rattle.bsp_rows.specs.Rows.{Rows}
use Rattle.bsp_rows.specs.Writes.{after_request}
use Rattle.bsp_rows.proofs.KeptLemmas.{request_sound}
use Rattle.bsp_desk_writes.proofs.PlanLemmas.{close_done, close_kept}
use Rattle.bsp_desk_writes.proofs.closes.close_period.Goals as goal

pub returns-then-not-is_done-clause-served : goal.returns-then-not-is_done-clause-served
returns-then-not-is_done-clause-served g c = λ t now last s h.
    let closed = c.in_ok-outcome.ensures in
    let P : Rows → Type 0 = λ rows. g.B.Book.means.holds c.close.new.self rows (Some last) in
    close_kept P now c.args.period c.in_ok-outcome.outcome c.plan_answer.result s (closed.found t now last h) (sym c.is_done.ensures ∙ c.if-not-is_done.true) c.plan_answer.ensures (closed.ok now last h)

pub returns-in_err-bill_due-clause-fault : goal.returns-in_err-bill_due-clause-fault
returns-in_err-bill_due-clause-fault g c =
    let closed = c.in_ok-outcome.ensures in
    let bill = c.in_err-bill_due.ensures.fault in
    record {
      trust = λ t. closed.fault.trust (bill.trust t);
      full = λ e t now last s h. bill.full (search rules) t (after_request (Close c.args.period) now) last (request_sound now (Close c.args.period) s) (closed.ok now last h);
      failed = search rules;
      left = λ e w t now last s h. bill.left (search rules) (search rules) t (after_request (Close c.args.period) now) last (request_sound now (Close c.args.period) s) (closed.ok now last h);
      dead = search rules;
    }

pub returns-clause-served : goal.returns-clause-served
returns-clause-served g c = λ t now last s h.
    let closed = c.in_ok-outcome.ensures in
    let bill = c.in_ok-bill_due.ensures in
    let t_closed = bill.fault.trust t in
    let next = after_request (Close c.args.period) now in
    let P : Rows → Type 0 = λ rows. g.B.Book.means.holds c.bill_due.new.book rows (Some last) in
    let all = bill.billed t next last (request_sound now (Close c.args.period) s) (closed.ok now last h) in
    close_done P now c.args.period c.in_ok-outcome.outcome c.plan_answer-2.result (closed.found t_closed now last h) (sym c.is_done.ensures ∙ c.if-not-is_done.false) c.plan_answer-2.ensures all.1
