use Rattle.std.proofs.Common.{◌++◌, ◌∷◌, [], List, map, take, ap, sym, ◌∙◌}
use Rattle.std.proofs.lemmas.List.{map_more}
use Rattle.bsp_book.specs.UsedRange.{UsedRange}
use Rattle.bsp_messages.specs.declared.answer.RangeShown.{RangeShown}
use Rattle.bsp_desk.specs.Stock.{shown_as}
use Rattle.bsp_desk.proofs.stocks.shown_stock.Goals as goal

pub loop-range-preserved : goal.loop-range-preserved
loop-range-preserved c =
    let ranges = c.args.ranges.now in
    let i = c.loop-range.range-index in
    let range : UsedRange = c.range-item.result in
    c.in_ok-push.ensures.items
    ∙ (ap (λ (shown : List RangeShown). shown ++ shown_as range ∷ []) c.loop-range.invariant
    ∙ (ap (λ (r : UsedRange). map shown_as (take i ranges) ++ shown_as r ∷ []) c.range-item.is
    ∙ sym (map_more shown_as ranges i range c.loop-range-test.true)))
