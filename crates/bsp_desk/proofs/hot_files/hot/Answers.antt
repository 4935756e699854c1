use Rattle.std.proofs.Common.{List, Some, ap, sym, subst, ◌∙◌}
use Rattle.std.specs.Result.{result_ok}
use Rattle.bsp_rows.specs.MemoFields.{MemoFields}
use Rattle.bsp_rows.specs.Rows.{Rows}
use Rattle.bsp_rules.specs.declared.rows.Item.{Item}
use Rattle.bsp_hot.specs.Sound.{KeepRules}
use Rattle.bsp_desk.proofs.Shown.{hot_is_wide, hot_says, looked_up, same_rows}
use Rattle.bsp_desk.proofs.hot_files.hot.Goals as goal

pub returns-in-Ok-write_hot_of-clause-served : goal.returns-in-Ok-write_hot_of-clause-served
returns-in-Ok-write_hot_of-clause-served g c = λ trust now last sound h.
    let code = c.in-Ok.code in
    let airline = c.args.airline in
    let memos_trust = c.in_ok-tallies.ensures.fault.trust trust in
    let items_trust = c.in_ok-memos.ensures.fault.trust memos_trust in
    let after_items = c.in_ok-items.ensures.ok now (Some last) h in
    let after_memos = c.in_ok-memos.ensures.ok now (Some last) after_items in
    let kept = c.in_ok-tallies.ensures.ok now (Some last) after_memos in
    let items = c.deref.ensures.value ∙ c.in_ok-items.ensures.found items_trust now (Some last) h in
    let memos = c.deref-2.ensures.value ∙ c.in_ok-memos.ensures.found memos_trust now (Some last) after_items in
    let plan = c.plan-2.ensures trust now (Some last) kept in
    let (q, terms, closed, published, over) = c.in-Ok-write_hot_of.ensures.written in
    let same_items = c.deref-in-Ok-write_hot_of.ensures.value ∙ sym c.deref.ensures.value in
    let same_memos = c.deref-in-Ok-write_hot_of-2.ensures.value ∙ sym c.deref-2.ensures.value in
    let rules = looked_up now c.args.period.now code (ap result_ok c.in-Ok.ensures.value) c.plan-2.result.now plan q terms closed published airline _ _ (same_items ∙ items) (same_memos ∙ memos) sound c.hot_rows_keep_rules.ensures.these in
    let keep =
    subst (λ (xs : List Item). KeepRules airline code xs c.deref-2.result.now) same_items
    (subst (λ (ms : List MemoFields). KeepRules airline code c.deref-in-Ok-write_hot_of.result.now ms) same_memos rules) in (
      hot_says now c.args.period.now code (ap result_ok c.in-Ok.ensures.value) c.plan-2.result.now plan q terms closed published airline _ _ items memos c.in-Ok-write_hot_of.file over (c.in-Ok-write_hot_of.ensures.stands keep),
      subst (λ (rows : Rows). g.B.Book.means.holds c.tallies.new.self rows (Some last)) (sym (same_rows _ now)) kept,
    )

pub returns-in-Err-TooWide-clause-served : goal.returns-in-Err-TooWide-clause-served
returns-in-Err-TooWide-clause-served g c = λ trust now last sound h.
    let code = c.in-Ok.code in
    let airline = c.args.airline in
    let memos_trust = c.in_ok-tallies.ensures.fault.trust trust in
    let items_trust = c.in_ok-memos.ensures.fault.trust memos_trust in
    let after_items = c.in_ok-items.ensures.ok now (Some last) h in
    let after_memos = c.in_ok-memos.ensures.ok now (Some last) after_items in
    let kept = c.in_ok-tallies.ensures.ok now (Some last) after_memos in
    let items = c.deref.ensures.value ∙ c.in_ok-items.ensures.found items_trust now (Some last) h in
    let memos = c.deref-2.ensures.value ∙ c.in_ok-memos.ensures.found memos_trust now (Some last) after_items in
    let plan = c.plan-2.ensures trust now (Some last) kept in
    let wide = rw c.in-Err-TooWide.field-0-is at c.in-Err-TooWide.ensures.written in
    let (q, terms, closed, published, over) = wide in (
      hot_is_wide now c.args.period.now code (ap result_ok c.in-Ok.ensures.value) c.plan-2.result.now plan q terms closed published airline _ _ items memos over,
      subst (λ (rows : Rows). g.B.Book.means.holds c.tallies.new.self rows (Some last)) (sym (same_rows _ now)) kept,
    )
