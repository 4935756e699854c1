use Rattle.std.proofs.Common.{subst}
use Rattle.bsp_store_base.proofs.Sqlite.{HasCleanDisk, state}
use Rattle.bsp_rows.specs.Rows.{no_rows}
use Rattle.bsp_store_open.specs.Opening.{LeavesCommitted}
use Rattle.bsp_store_open.proofs.OpeningLemmas.{given_up, left_committed, passed_on}
use Rattle.bsp_store.proofs.AdoptingLemmas.{book_read}
use Rattle.bsp_store.proofs.opening.empty_book.Goals as goal

pub returns-in-Ok-clause-ok : goal.returns-in-Ok-clause-ok
returns-in-Ok-clause-ok g c = book_read g.S.Store c.in_ok-conn.conn c.empty_list.new.conn c.in-Ok.list no_rows c.of.result c.of.ensures (c.in-Ok.ensures.read c.in_ok-conn.ensures.ok.ordered)

pub returns-in_err-conn-clause-left : goal.returns-in_err-conn-clause-left
returns-in_err-conn-clause-left g c = passed_on (λ e. LeavesCommitted g.S.Store c.args.conn e.1) _ _ c.from_residual.ensures.1 c.in_err-conn.ensures.left

pub returns-in-Err-clause-left : goal.returns-in-Err-clause-left
returns-in-Err-clause-left g c =
    let was = c.in_ok-conn.conn in
    let store = c.into_store in
    left_committed g.S.Store c.args.conn was c.in_ok-conn.ensures.ok store.result (λ db is may. g.met.S.Store.settled was.store db is may)
    (given_up g.S.Store was c.empty_list.new.conn store.result c.in-Err.ensures.spares store.ensures.quiet)

pub returns-in-Ok-clause-earlier : goal.returns-in-Ok-clause-earlier
returns-in-Ok-clause-earlier g c = λ clean.
    let again = c.in_ok-conn.ensures.ok in
    again.earlier ((c.in-Ok.ensures.read again.ordered).earlier (subst (λ h. HasCleanDisk (state g.S.Store h)) c.of.ensures.1 clean))
