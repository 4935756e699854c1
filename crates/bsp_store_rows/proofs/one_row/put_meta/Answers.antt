use Rattle.std.proofs.Common.{◌≡◌, Ok, Err}
use Rattle.bsp_store_base.proofs.Writes.{on_err}
use Rattle.bsp_store_rows.proofs.MetaTable.{text_for, writing}
use Rattle.bsp_store_rows.proofs.one_row.put_meta.Goals as goal
use Rattle.bsp_store_rows.proofs.one_row.put_meta.Goals.{then-is_there, else-is_there}

pub returns-clause-ok : goal.returns-clause-ok
returns-clause-ok g c =
    let text : c.if-is_there.text.now ≡ text_for c.args.is_there = elim c.if-is_there.branch [ then-is_there w ↦ rw (w.if-is_there.true, w.text-is) | else-is_there w ↦ rw (w.if-is_there.false, w.text-is) ] in
    (writing g.S.Store c.args.conn.now c.run_entry.new.conn (record { day = c.args.day; closed = c.args.closed }) c.args.is_there (Ok _) (rw text at c.in_ok-run_entry.ensures.survives) (λ clean. rw text at (c.in_ok-run_entry.ensures.runs clean))).0

pub returns-in_err-run_entry-clause-err : goal.returns-in_err-run_entry-clause-err
returns-in_err-run_entry-clause-err g c =
    let text : c.if-is_there.text.now ≡ text_for c.args.is_there = elim c.if-is_there.branch [ then-is_there w ↦ rw (w.if-is_there.true, w.text-is) | else-is_there w ↦ rw (w.if-is_there.false, w.text-is) ] in
    on_err c.from_residual.result (writing g.S.Store c.args.conn.now c.run_entry.new.conn (record { day = c.args.day; closed = c.args.closed }) c.args.is_there (Err _) (rw text at c.in_err-run_entry.ensures.survives) (λ clean. rw text at (c.in_err-run_entry.ensures.runs clean))).1
