use Rattle.std.proofs.Common.{List, Some, ap, sym, subst, ◌∙◌}
use Rattle.std.specs.Result.{result_ok}
use Rattle.bsp_statement.specs.Tallies.{AreTallies}
use Rattle.bsp_statement.specs.declared.tally.Tally.{Tally}
use Rattle.bsp_rows.specs.Rows.{Rows}
use Rattle.bsp_rows.specs.declared.questions.Tallies.TheVariants.{OfAgentIn}
use Rattle.bsp_rows.proofs.AskedTallies.{asked_tallies}
use Rattle.bsp_desk.proofs.PeriodRows.{asked_items, asked_memos}
use Rattle.bsp_desk.proofs.Shown.{same_rows, statement_says}
use Rattle.bsp_desk.proofs.statements.statement.Goals as goal

pub returns-in-Ok-statement_of-clause-served : goal.returns-in-Ok-statement_of-clause-served
returns-in-Ok-statement_of-clause-served g c = λ trust now last sound h.
    let code = c.in-Ok.code in
    let agent = c.args.agent in
    let kept = c.in_ok-tallies.ensures.ok now (Some last) h in
    let found = c.in_ok-tallies.ensures.found trust now (Some last) h in
    let plan = c.plan-2.ensures trust now (Some last) kept in
    let items = asked_items (OfAgentIn agent code) now in
    let memos = asked_memos (OfAgentIn agent code) now in
    let are = subst (λ (ts : List Tally). AreTallies items memos ts) (sym (c.deref.ensures.value ∙ found)) (asked_tallies (OfAgentIn agent code) now) in
    let (q, terms, closed, published, over) = c.in-Ok-statement_of.ensures.rows items memos are in (
      statement_says now c.args.period.now code (ap result_ok c.in-Ok.ensures.value) c.plan-2.result.now plan q terms closed published agent sound c.in-Ok-statement_of.text over,
      subst (λ (rows : Rows). g.B.Book.means.holds c.tallies.new.self rows (Some last)) (sym (same_rows _ now)) kept,
    )
