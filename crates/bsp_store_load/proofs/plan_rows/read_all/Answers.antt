use Rattle.std.proofs.Common.{◌++◌, sym, ap}
use Rattle.bsp_store_load.proofs.PlanReads.{all_read, reads_on, reads_some}
use Rattle.bsp_store_load.proofs.plan_rows.read_all.Goals as goal

pub loop-row-init : goal.loop-row-init
loop-row-init g c = λ values all. record { rest = values; is = sym (ap (λ l. l ++ values) c.new-found.ensures.items); left = all }

pub loop-row-preserved : goal.loop-row-preserved
loop-row-preserved g c = λ values all.
    reads_on g.T.ReadsAs.is_in c.args.rows.now c.loop-row.row-index c.loop-row.found.items values (c.loop-row.invariant values all) c.row-item.result c.loop-row-test.true c.row-item.is c.read.result c.read.ensures
    c.in-Some.value c.push.new.self.items c.in-Some.is c.in_ok-push.ensures.items

pub returns-in_default : goal.returns-in_default
returns-in_default g c = λ values all.
    absurd (reads_some g.T.ReadsAs.is_in c.args.rows.now c.loop-row.row-index c.loop-row.found.items values (c.loop-row.invariant values all) c.row-item.result c.loop-row-test.true c.row-item.is c.read.result c.read.ensures c.in_default.is)

pub returns : goal.returns
returns g c = λ values all. all_read g.T.ReadsAs.is_in c.args.rows.now c.loop-row.row-index c.loop-row.found.items values (c.loop-row.invariant values all) c.loop-row-test.false
