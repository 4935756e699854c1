use Rattle.std.proofs.Common.{subst}
use Rattle.std.specs.List.{All}
use Rattle.std.proofs.lemmas.List.{take_all}
use Rattle.std.proofs.lemmas.List.Elements.{All-more}
use Rattle.bsp_office_spec.specs.HotRules.{IsTypedItem}
use Rattle.bsp_office_spec.proofs.hot_rows.items_fit.Goals as goal

pub loop-item-preserved : goal.loop-item-preserved
loop-item-preserved c =
    All-more IsTypedItem c.args.items.now c.loop-item.item-index c.item-item.result c.loop-item-test.true c.loop-item.invariant (subst IsTypedItem c.item-item.is c.item_fits.ensures)

pub returns : goal.returns
returns c = subst (All IsTypedItem) (take_all c.loop-item.item-index c.args.items.now c.loop-item-test.false) c.loop-item.invariant
