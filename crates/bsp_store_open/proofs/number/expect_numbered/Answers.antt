use Rattle.std.proofs.Common.{subst}
use Rattle.bsp_store_open.specs.Old.{old_number}
use Rattle.bsp_store_open.proofs.OpeningLemmas.{if_err, no_refusal, on_ok}
use Rattle.bsp_store_open.specs.Opening.{Reports}
use Rattle.bsp_store_open.specs.Migrating.{HasNoOldBook, HasNumber}
use Rattle.bsp_store_open.proofs.MetaLemmas.{meta_spares, not_numbered, numbered}
use Rattle.bsp_store_open.proofs.number.expect_numbered.Goals as goal

pub returns-in_err-rows-clause-refused : goal.returns-in_err-rows-clause-refused
returns-in_err-rows-clause-refused g c = no_refusal (λ fault. HasNoOldBook g.S.Store c.args.version fault c.args.conn.now c.query_all.new.self) _ _ c.from_residual.ensures.1

pub returns-in_err-rows-clause-spares : goal.returns-in_err-rows-clause-spares
returns-in_err-rows-clause-spares g c = meta_spares g.S.Store c.args.conn.now c.query_all.new.self c.query_all.ensures.survives c.args.version c.requires

pub returns-clause-numbered : goal.returns-clause-numbered
returns-clause-numbered g c =
    on_ok _ _ c.expect_number.result c.expect_number.ensures.ok
    (λ has. numbered g.S.Store c.args.conn.now c.query_all.new.self c.query_all.ensures.survives c.args.version c.requires c.in_ok-rows.rows.items c.in_ok-rows.ensures.ok (subst (HasNumber (old_number c.args.version)) c.deref.ensures.value has))

pub returns-clause-refused : goal.returns-clause-refused
returns-clause-refused g c =
    if_err _ _ c.expect_number.result c.expect_number.ensures.refused (λ fault it refused.
    not_numbered g.S.Store c.args.conn.now c.query_all.new.self c.query_all.ensures.survives c.args.version c.requires c.in_ok-rows.rows.items c.in_ok-rows.ensures.ok fault
    (rw c.deref.ensures.value at it.0) (subst (Reports fault) c.deref.ensures.value it.1))

pub returns-clause-spares : goal.returns-clause-spares
returns-clause-spares g c = meta_spares g.S.Store c.args.conn.now c.query_all.new.self c.query_all.ensures.survives c.args.version c.requires
