use Rattle.std.proofs.Common.{◌≡◌, false, IsTrue, rules}
use Rattle.bsp_store_load.specs.Content.{form}
use Rattle.bsp_store_load.proofs.Held.{undoes_on, nothing_to_undo}
use Rattle.bsp_store_save.proofs.ends.undo.Goals as goal

pub returns-then-not-is_autocommit : goal.returns-then-not-is_autocommit
returns-then-not-is_autocommit g c =
    let inside : IsTrue c.args.conn.now.in_transaction = search rules in
    undoes_on form g.S.Store c.args.conn.now c.execute.new.self c.execute.result c.execute.ensures.survives c.execute.ensures.runs inside

pub returns-else-not-is_autocommit : goal.returns-else-not-is_autocommit
returns-else-not-is_autocommit g c =
    let outside : c.args.conn.now.in_transaction ≡ false = search rules in
    let yes : IsTrue c.is_autocommit.result = search rules in
    nothing_to_undo form g.S.Store c.args.conn.now outside (c.is_autocommit.ensures.settled yes)
