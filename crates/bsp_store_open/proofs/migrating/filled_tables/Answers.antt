use Rattle.bsp_store_open.proofs.OpeningLemmas.{spares_both}
use Rattle.bsp_store_open.proofs.MigratingLemmas.{filled_with, no_old, only_old}
use Rattle.bsp_store_open.proofs.migrating.filled_tables.Goals as goal

pub returns-in_err-fill-clause-spares : goal.returns-in_err-fill-clause-spares
returns-in_err-fill-clause-spares g c = c.in_err-fill.ensures.spares c.requires.begun

pub returns-in-Ok-clause-filled : goal.returns-in-Ok-clause-filled
returns-in-Ok-clause-filled g c =
    filled_with g.S.Store c.args.version c.args.conn.now c.fill.new.conn c.sound_tables.new.conn (c.in_ok-fill.ensures.spares c.requires.begun) c.sound_tables.ensures.spares (c.in_ok-fill.ensures.filled c.requires.begun) c.requires.number c.in-Ok.tables c.in-Ok.ensures.found

pub returns-in-Ok-clause-only : goal.returns-in-Ok-clause-only
returns-in-Ok-clause-only g c =
    only_old g.S.Store c.args.version c.args.conn.now c.fill.new.conn c.sound_tables.new.conn (c.in_ok-fill.ensures.spares c.requires.begun) c.sound_tables.ensures.spares (c.in_ok-fill.ensures.filled c.requires.begun) c.in-Ok.tables c.in-Ok.ensures.found

pub returns-in-Ok-clause-spares : goal.returns-in-Ok-clause-spares
returns-in-Ok-clause-spares g c = spares_both g.S.Store c.args.conn.now c.fill.new.conn c.sound_tables.new.conn (c.in_ok-fill.ensures.spares c.requires.begun) c.sound_tables.ensures.spares

pub returns-in-Err-clause-spares : goal.returns-in-Err-clause-spares
returns-in-Err-clause-spares g c = spares_both g.S.Store c.args.conn.now c.fill.new.conn c.sound_tables.new.conn (c.in_ok-fill.ensures.spares c.requires.begun) c.sound_tables.ensures.spares

pub returns-in-Err-clause-refused : goal.returns-in-Err-clause-refused
returns-in-Err-clause-refused g c = λ refused.
    let it = c.damaged.ensures refused in (
      it.0,
      no_old g.S.Store c.args.version c.args.conn.now c.fill.new.conn c.sound_tables.new.conn (c.in_ok-fill.ensures.spares c.requires.begun) c.sound_tables.ensures.spares (c.in_ok-fill.ensures.filled c.requires.begun)
          (λ clean ours. (c.in-Err.ensures.refused it.1 clean ours).none),
    )

pub returns-in-Ok-clause-committed : goal.returns-in-Ok-clause-committed
returns-in-Ok-clause-committed g c = c.in-Ok.ensures.holds.0

pub returns-in-Ok-clause-formed : goal.returns-in-Ok-clause-formed
returns-in-Ok-clause-formed g c = c.in-Ok.ensures.holds.1

pub returns-in-Ok-clause-sound : goal.returns-in-Ok-clause-sound
returns-in-Ok-clause-sound g c = c.in-Ok.ensures.holds.2
