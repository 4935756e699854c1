use Rattle.std.proofs.Common.{refl, sym, ◌∙◌}
use Rattle.bsp_hot.specs.Rows.{is_reported, row_entry}
use Rattle.bsp_hot.proofs.AddedRows.{none_added, row_added, row_left_out, all_added}
use Rattle.bsp_hot.proofs.rows.with_items.Goals as goal
use Rattle.bsp_hot.proofs.rows.with_items.Goals.{then-is_reported+in-Ok, else-is_reported}

pub loop-item-init : goal.loop-item-init
loop-item-init c = none_added c.args.rows.items _ refl c.requires

pub loop-item-preserved : goal.loop-item-preserved
loop-item-preserved c =
    let passes = is_reported c.args.airline c.args.period in
    let item = c.item-item.result in
    elim c.if-is_reported.branch [
      | then-is_reported+in-Ok w ↦
          rw w.rows-is
          (row_added passes row_entry c.args.items.now c.loop-item.item-index item c.loop-item-test.true c.item-item.is c.args.rows.items c.loop-item.rows.items _ w.of_item.result
          (sym c.is_reported.ensures ∙ w.if-is_reported.true) w.of_item.ensures.row w.of_item.ensures.entry w.in-Ok.ensures.items c.loop-item.invariant)
      | else-is_reported w ↦
          rw w.rows-is
          (row_left_out passes row_entry c.args.items.now c.loop-item.item-index item c.loop-item-test.true c.item-item.is c.args.rows.items c.loop-item.rows.items
          (sym c.is_reported.ensures ∙ w.if-is_reported.false) c.loop-item.invariant)
    ]

pub returns-clause-rows : goal.returns-clause-rows
returns-clause-rows c = c.loop-item.invariant.are

pub returns-clause-entries : goal.returns-clause-entries
returns-clause-entries c =
    (all_added (is_reported c.args.airline c.args.period) row_entry c.args.items.now c.loop-item.item-index c.args.rows.items c.loop-item.rows.items c.loop-item-test.false c.loop-item.invariant).entries
