use Rattle.std.proofs.Common.{◌++◌, [], ◌∷◌, ◌∙◌, ap, sym}
use Rattle.bsp_statement.specs.declared.posting.Posting.{Posting}
use Rattle.bsp_statement.specs.Postings.{is_counted, item_posting}
use Rattle.bsp_statement.proofs.ListLemmas.{kept_more, passed_over}
use Rattle.bsp_statement.proofs.rows.push_items.Goals as goal
use Rattle.bsp_statement.proofs.rows.push_items.Goals.{then-is_counted+in_ok-push, else-is_counted}

pub loop-item-preserved : goal.loop-item-preserved
loop-item-preserved c =
    let xs = c.args.items.now in
    let x = c.item-item.result in
    let out = c.loop-item.out.items in
    let tested = sym c.is_counted.ensures in
    elim c.if-is_counted.branch [
      | then-is_counted+in_ok-push w ↦
          let added = ap (λ v. v.items) w.out-is ∙ w.in_ok-push.ensures.items ∙ ap (λ (p : Posting). out ++ p ∷ []) (w.of_item.ensures) in
          kept_more item_posting (is_counted c.args.period) xs c.loop-item.item-index x c.args.out.now.items out _ c.loop-item-test.true c.item-item.is c.loop-item.invariant (tested ∙ w.if-is_counted.true) added
      | else-is_counted w ↦
          passed_over item_posting (is_counted c.args.period) xs c.loop-item.item-index x c.args.out.now.items out _ c.loop-item-test.true c.item-item.is c.loop-item.invariant (tested ∙ w.if-is_counted.false) (ap (λ v. v.items) w.out-is)
    ]
