use Rattle.std.proofs.Common.{Ok, Err, refl}
use Rattle.bsp_store_base.proofs.Writes.{on_err, second_fails}
use Rattle.bsp_store_rows.proofs.MetaTable.{adding, clearing, without}
use Rattle.bsp_store_rows.proofs.one_row.put_terms.Goals as goal

pub returns-clause-ok : goal.returns-clause-ok
returns-clause-ok g c = λ now last a b met stands inside.
    let cleared = (clearing g.S.Store c.args.conn.now c.execute.new.self (Ok _) c.in_ok-execute.ensures.survives c.in_ok-execute.ensures.runs).0 now last a b tt stands inside in
    let added = (adding g.S.Store c.execute.new.self c.run_entry.new.conn c.in-Some.terms (Ok _) c.in_ok-run_entry.ensures.survives c.in_ok-run_entry.ensures.runs).0 in
    rw c.in-Some.is (added (without now) last a b refl cleared.0 cleared.1)

pub returns-in_default-clause-ok : goal.returns-in_default-clause-ok
returns-in_default-clause-ok g c = rw c.in_default.is (clearing g.S.Store c.args.conn.now c.execute.new.self (Ok _) c.in_ok-execute.ensures.survives c.in_ok-execute.ensures.runs).0

pub returns-in_err-execute-clause-err : goal.returns-in_err-execute-clause-err
returns-in_err-execute-clause-err g c = on_err c.from_residual.result (clearing g.S.Store c.args.conn.now c.execute.new.self (Err _) c.in_err-execute.ensures.survives c.in_err-execute.ensures.runs).1

pub returns-in_err-run_entry-clause-err : goal.returns-in_err-run_entry-clause-err
returns-in_err-run_entry-clause-err g c =
    let cleared = (clearing g.S.Store c.args.conn.now c.execute.new.self (Ok _) c.in_ok-execute.ensures.survives c.in_ok-execute.ensures.runs).0 in
    let fails = (adding g.S.Store c.execute.new.self c.run_entry.new.conn c.in-Some.terms (Err _) c.in_err-run_entry.ensures.survives c.in_err-run_entry.ensures.runs).1 in
    on_err c.from_residual-in_err-run_entry.result (second_fails g.S.Store c.args.conn.now c.execute.new.self c.run_entry.new.conn without cleared fails)
