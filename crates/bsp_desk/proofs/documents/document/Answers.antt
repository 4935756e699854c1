use Rattle.std.proofs.Common.{List, Some, ap, sym, subst, ◌∙◌}
use Rattle.std.specs.Result.{result_ok}
use Rattle.bsp_rows.specs.Codes.{check_digit_of}
use Rattle.bsp_messages.specs.declared.answer.DocumentState.{DocumentState}
use Rattle.bsp_rows.specs.Rows.{Rows}
use Rattle.bsp_rules.specs.declared.rows.Item.{Item}
use Rattle.bsp_desk_sales.specs.Ledger.{state_of}
use Rattle.bsp_desk.proofs.DocumentRows.{document_says, no_document, shown_as}
use Rattle.bsp_desk.proofs.Shown.{same_rows}
use Rattle.bsp_desk.proofs.documents.document.Goals as goal

pub returns-in-Some-clause-served : goal.returns-in-Some-clause-served
returns-in-Some-clause-served g c = λ trust now last sound h.
    let number = c.in-Ok.document in
    let kept = c.in_ok-items.ensures.ok now (Some last) h in
    let items = c.deref.ensures.value ∙ c.in_ok-items.ensures.found trust now (Some last) h in
    let item = c.in-Some.item in
    let state = ap (λ (s : DocumentState). shown_as item s) (c.state_of-state.ensures ∙ ap (λ (xs : List Item). state_of xs item) (c.deref-in-Some.ensures.value ∙ sym c.deref.ensures.value)) in (
      document_says now sound c.args.agent number (check_digit_of number) c.digits-digits.result c.digits-digits.ensures.reads_back c.args.number.now (ap result_ok c.in-Ok.ensures.value) c.deref.result.now items item c.in-Some.ensures (shown_as item c.state_of-state.result) state,
      subst (λ (rows : Rows). g.B.Book.means.holds c.items_with_number.new.self rows (Some last)) (sym (same_rows _ now)) kept,
    )

pub returns-clause-served : goal.returns-clause-served
returns-clause-served g c = λ trust now last sound h.
    let number = c.in-Ok.document in
    let kept = c.in_ok-items.ensures.ok now (Some last) h in
    let items = c.deref.ensures.value ∙ c.in_ok-items.ensures.found trust now (Some last) h in (
      no_document now sound c.args.agent number (check_digit_of number) c.digits-digits.result c.digits-digits.ensures.reads_back c.args.number.now (ap result_ok c.in-Ok.ensures.value) c.deref.result.now items c.in-None.ensures,
      subst (λ (rows : Rows). g.B.Book.means.holds c.items_with_number.new.self rows (Some last)) (sym (same_rows _ now)) kept,
    )
