use Rattle.std.proofs.Common.{◌≡◌, ◌+◌, ◌∷◌, List, ap, length, map, subst, sym, ◌∙◌, ℕ}
use Rattle.std.specs.List.{FoldsTo}
use Rattle.bsp_calendar.specs.Published.{is_closed}
use Rattle.bsp_memory_rows.specs.Tables.{rows_of}
use Rattle.bsp_memory_rows.specs.declared.tables.Tables.{Tables}
use Rattle.bsp_book.specs.declared.list.ListBook.{ListBook}
use Rattle.bsp_judge.specs.Asked.{Takes, Task, place_of}
use Rattle.bsp_judge.specs.Asked.Task.{AskFor, Close, SetDay}
use Rattle.bsp_judge.specs.declared.setup.Step.TheVariants.{Closing}
use Rattle.bsp_judge.specs.Steps.{rows_in}
use Rattle.bsp_judge.specs.Unjudged.{IsStopOf, IsUnstatedOver}
use Rattle.bsp_judge.proofs.JudgeLemmas.{if_said}
use Rattle.bsp_judge.proofs.StatementLemmas.{close_stops, closing_is, statement_stops}
use Rattle.bsp_judge.proofs.UnjudgedLemmas.{if_fault, passed_on}
use Rattle.bsp_judge.proofs.stating.state.Goals as goal

pub returns-in_err-close-clause-unstated : goal.returns-in_err-close-clause-unstated
returns-in_err-close-clause-unstated c =
    let s = c.args.setup.now in
    let left = rows_in c.args.desk.now.book in
    let code = c.args.code in
    let closing = c.in-Ok.closing in
    let plan = c.plan-plan.result.now in
    let plan_is : plan ≡ left.published = c.plan-plan.ensures ∙ ap (λ (t : Tables). (rows_of t).published) (c.tables.ensures ∙ ap (λ (b : ListBook). b.tables) c.book.ensures) in
    let known = closing_is left code plan (λ q. is_closed plan code) c.period.result (c.in-Some.period, c.in-Some.field-0-1) (SetDay closing.day ∷ map (λ code. Close code) closing.codes.items) plan_is c.period.ensures c.in-Some.is c.in-Ok.ensures in
    passed_on (IsUnstatedOver s left code) _ _ c.from_residual.ensures.1
    (close_stops s left code c.in-Some.period known.0 closing.day closing.codes.items known.1 _ c.in_err-close.ensures.stopped)

pub returns-clause-stated : goal.returns-clause-stated
returns-clause-stated c =
    let left = rows_in c.args.desk.now.book in
    let code = c.args.code in
    let closing = c.in-Ok.closing in
    let plan = c.plan-plan.result.now in
    let plan_is : plan ≡ left.published = c.plan-plan.ensures ∙ ap (λ (t : Tables). (rows_of t).published) (c.tables.ensures ∙ ap (λ (b : ListBook). b.tables) c.book.ensures) in
    let known = closing_is left code plan (λ q. is_closed plan code) c.period.result (c.in-Some.period, c.in-Some.field-0-1) (SetDay closing.day ∷ map (λ code. Close code) closing.codes.items) plan_is c.period.ensures c.in-Some.is c.in-Ok.ensures in
    let closed = rows_in c.close.new.desk.book in
    if_said c.ask_statement.result
    (λ text says. record {
      closed = closed;
      closes = subst (λ (ts : List Task). FoldsTo Takes left ts closed) (sym known.1) c.in_ok-close.ensures.passed.taken;
      answered = says;
    })
    c.ask_statement.ensures.given

pub returns-clause-unstated : goal.returns-clause-unstated
returns-clause-unstated c =
    let s = c.args.setup.now in
    let left = rows_in c.args.desk.now.book in
    let code = c.args.code in
    let closing = c.in-Ok.closing in
    let plan = c.plan-plan.result.now in
    let plan_is : plan ≡ left.published = c.plan-plan.ensures ∙ ap (λ (t : Tables). (rows_of t).published) (c.tables.ensures ∙ ap (λ (b : ListBook). b.tables) c.book.ensures) in
    let known = closing_is left code plan (λ q. is_closed plan code) c.period.result (c.in-Some.period, c.in-Some.field-0-1) (SetDay closing.day ∷ map (λ code. Close code) closing.codes.items) plan_is c.period.ensures c.in-Some.is c.in-Ok.ensures in
    let closed = rows_in c.close.new.desk.book in
    let count : c.len.result ≡ length closing.codes.items = c.len.ensures ∙ closing.codes.ok.0 in
    if_fault c.ask_statement.result
    (λ fault stop. statement_stops s left code c.in-Some.period known.0 closing.day closing.codes.items known.1 closed c.in_ok-close.ensures.passed.taken fault
    (subst (λ (n : ℕ). IsStopOf s (place_of s (Closing (n + 1))) closed (AskFor s.agent code) fault) count stop))
    c.ask_statement.ensures.stopped
