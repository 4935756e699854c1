-- The texts mean statements whose effects are known.
use Rattle.std.proofs.Common.{Ok}
use Rattle.bsp_store_open.proofs.Running.{seconds_added, taxes_added}
use Rattle.bsp_store_open.proofs.Versions.{first_fails, first_fills, second_fills}
use Rattle.bsp_store_open.proofs.adding.fill.Goals as goal

pub returns-in_err-execute_batch-in-First : goal.returns-in_err-execute_batch-in-First
returns-in_err-execute_batch-in-First g c =
    let taxes = taxes_added g.S.Store c.args.conn.now c.execute_batch.new.self _ c.in_err-execute_batch-in-First.ensures.clean c.in_err-execute_batch-in-First.ensures.ran in
    rw c.in-First.is (first_fails g.S.Store c.args.conn.now c.args.conn.now c.execute_batch.new.self _ _ c.from_residual.ensures.1 taxes)

pub returns-in_ok-execute_batch-in-First : goal.returns-in_ok-execute_batch-in-First
returns-in_ok-execute_batch-in-First g c =
    let taxes = taxes_added g.S.Store c.args.conn.now c.execute_batch.new.self (Ok tt) c.in_ok-execute_batch-in-First.ensures.clean c.in_ok-execute_batch-in-First.ensures.ran in
    let last = c.execute_batch-in-First in
    rw c.in-First.is (first_fills g.S.Store c.args.conn.now c.execute_batch.new.self last.new.self last.result taxes (seconds_added g.S.Store c.execute_batch.new.self last.new.self last.result last.ensures.clean last.ensures.ran))

pub returns-in-Second : goal.returns-in-Second
returns-in-Second g c =
    let last = c.execute_batch-in-Second in
    rw c.in-Second.is (second_fills g.S.Store c.args.conn.now c.args.conn.now last.new.self last.result (seconds_added g.S.Store c.args.conn.now last.new.self last.result last.ensures.clean last.ensures.ran))
