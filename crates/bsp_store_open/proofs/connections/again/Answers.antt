-- A store that is not broken is open, and the rollback left what was committed.
use Rattle.std.proofs.Common.{Ok, inr, sym, ◌∙◌, arith}
use Rattle.sqlite_rules.proofs.ViewLemmas.{still_quiet}
use Rattle.bsp_store_open.proofs.OpeningLemmas.{still_clean}
use Rattle.bsp_store_open.proofs.OrderLemmas.{ours_in_order, reopened_trees}
use Rattle.bsp_store_open.proofs.connections.again.Goals as goal

pub returns-then-is_broken-clause-left : goal.returns-then-is_broken-clause-left
returns-then-is_broken-clause-left g c =
    let quiet = c.into_store-store.ensures.quiet in
    record { earlier = λ clean. still_clean g.S.Store c.args.conn _ quiet clean; leaves = λ clean db may. inr (quiet.outcomes db may) }

pub returns-in-Ok-clause-ok : goal.returns-in-Ok-clause-ok
returns-in-Ok-clause-ok g c =
    let store = c.into_store-store in
    record {
      earlier = λ disk. omega (arith, store.ensures.quiet.clean, c.in-Ok.ensures.clean, disk);
      opens = c.in-Ok.ensures.opens;
      fresh = c.in-Ok.ensures.fresh;
      trees = reopened_trees {E = Unit {0}} g.S.Store c.args.conn.store store.result (Ok c.in-Ok.conn) (g.met.S.Store.broken_if_shut store.result)
          (λ clean. sym (c.is_broken.ensures clean) ∙ c.if-is_broken.false) store.ensures.undone c.in-Ok.ensures.clean c.in-Ok.ensures.trees;
      ordered = ours_in_order g.S.Store c.in-Ok.conn c.in-Ok.ensures.order;
    }

pub returns-in-Err-clause-left : goal.returns-in-Err-clause-left
returns-in-Err-clause-left g c =
    let quiet = still_quiet c.into_store-store.ensures.quiet c.in-Err.ensures.unharmed in
    record { earlier = λ clean. still_clean g.S.Store c.args.conn _ quiet clean; leaves = λ clean db may. inr (quiet.outcomes db may) }
