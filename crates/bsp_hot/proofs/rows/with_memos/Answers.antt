use Rattle.std.proofs.Common.{refl, sym, ◌∙◌}
use Rattle.bsp_hot.specs.Rows.{is_billed, memo_entry}
use Rattle.bsp_hot.proofs.AddedRows.{none_added, row_added, row_left_out, all_added}
use Rattle.bsp_hot.proofs.rows.with_memos.Goals as goal
use Rattle.bsp_hot.proofs.rows.with_memos.Goals.{then-is_billed+in-Ok, else-is_billed}

pub loop-memo-init : goal.loop-memo-init
loop-memo-init c = none_added c.args.rows.items _ refl c.requires

pub loop-memo-preserved : goal.loop-memo-preserved
loop-memo-preserved c =
    let passes = is_billed c.args.airline c.args.period in
    let memo = c.memo-item.result in
    elim c.if-is_billed.branch [
      | then-is_billed+in-Ok w ↦
          rw w.rows-is
          (row_added passes memo_entry c.args.memos.now c.loop-memo.memo-index memo c.loop-memo-test.true c.memo-item.is c.args.rows.items c.loop-memo.rows.items _ w.of_memo.result
          (sym c.is_billed.ensures ∙ w.if-is_billed.true) w.of_memo.ensures.row w.of_memo.ensures.entry w.in-Ok.ensures.items c.loop-memo.invariant)
      | else-is_billed w ↦
          rw w.rows-is
          (row_left_out passes memo_entry c.args.memos.now c.loop-memo.memo-index memo c.loop-memo-test.true c.memo-item.is c.args.rows.items c.loop-memo.rows.items
          (sym c.is_billed.ensures ∙ w.if-is_billed.false) c.loop-memo.invariant)
    ]

pub returns-clause-rows : goal.returns-clause-rows
returns-clause-rows c = c.loop-memo.invariant.are

pub returns-clause-entries : goal.returns-clause-entries
returns-clause-entries c =
    (all_added (is_billed c.args.airline c.args.period) memo_entry c.args.memos.now c.loop-memo.memo-index c.args.rows.items c.loop-memo.rows.items c.loop-memo-test.false c.loop-memo.invariant).entries
