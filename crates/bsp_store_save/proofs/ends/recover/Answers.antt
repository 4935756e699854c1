use Rattle.bsp_store_load.specs.Content.{form}
use Rattle.bsp_store_load.proofs.Held.{fallen_from, weaken}
use Rattle.bsp_store_save.proofs.ends.recover.Goals as goal

pub returns-in-Ok-clause-alive : goal.returns-in-Ok-clause-alive
returns-in-Ok-clause-alive g c _ last a b fallen =
    let undone = c.undo.ensures last a b fallen in
    let begun = c.in-Ok.ensures.ok last a b undone.0 in
    c.undo-in-Ok.ensures last last last (fallen_from form g.S.Store _ begun.1 last last last last begun.0)

pub returns-in-Ok-clause-ended : goal.returns-in-Ok-clause-ended
returns-in-Ok-clause-ended g c last b fallen =
    let undone = c.undo.ensures last last b fallen in
    let begun = c.in-Ok.ensures.ok last last b undone.0 in
    let over = c.undo-in-Ok.ensures last last last (fallen_from form g.S.Store _ begun.1 last last last last begun.0) in
    (weaken form g.S.Store _ last last b over.0, over.1)

pub returns-in-Err-clause-ended : goal.returns-in-Err-clause-ended
returns-in-Err-clause-ended g c last b fallen =
    let undone = c.undo.ensures last last b fallen in
    c.undo-in-Err.ensures last last b (c.in-Err.ensures.err last last b undone.0 undone.1)
