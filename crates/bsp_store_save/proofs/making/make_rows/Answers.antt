use Rattle.std.proofs.Common.{arith}
use Rattle.bsp_store_base.proofs.Sqlite.{HasCleanDisk, state, survives_then}
use Rattle.bsp_store_save.proofs.MakingLemmas.{new_book}
use Rattle.bsp_store_save.proofs.making.make_rows.Goals as goal

pub returns-clause-made : goal.returns-clause-made
returns-clause-made g c = λ clean bare.
    let mid = state g.S.Store c.make_tables.new.tx.conn.now in
    let was_clean : HasCleanDisk mid = omega (arith, c.add_first_meta.ensures.survives.clean, clean) in
    new_book mid.now (state g.S.Store c.add_first_meta.new.tx.conn.now).now c.first.result c.first.ensures (c.in_ok-make_tables.ensures.made was_clean bare) (c.in_ok-add_first_meta.ensures.added clean)

pub returns-clause-survives : goal.returns-clause-survives
returns-clause-survives g c =
    survives_then (state g.S.Store c.args.tx.now.conn.now) (state g.S.Store c.make_tables.new.tx.conn.now) (state g.S.Store c.add_first_meta.new.tx.conn.now) _ _ _ (λ _ db none. none) (λ _ db none. none)
    c.make_tables.ensures.survives c.add_first_meta.ensures.survives

pub returns-in_err-add_first_meta-clause-survives : goal.returns-in_err-add_first_meta-clause-survives
returns-in_err-add_first_meta-clause-survives g c =
    survives_then (state g.S.Store c.args.tx.now.conn.now) (state g.S.Store c.make_tables.new.tx.conn.now) (state g.S.Store c.add_first_meta.new.tx.conn.now) _ _ _ (λ _ db none. none) (λ _ db none. none)
    c.make_tables.ensures.survives c.add_first_meta.ensures.survives
