use Rattle.std.proofs.Common.{ap, ◌∙◌}
use Rattle.std.specs.FinMap.{from_entries, insert}
use Rattle.bsp_maps.specs.Undo.{restorable}
use Rattle.bsp_maps.proofs.UndoLemmas.{written}
use Rattle.bsp_maps.proofs.earlier.note_before.Goals as goal

pub returns : goal.returns
returns g c =
    written g.met.K.Ord.total c.requires c.args.found.now c.insert.new.self c.args.old.now.key c.value_if-before.result c.in_ok-insert.ensures.updates.0
    ∙ ap (λ v. insert (from_entries {R = g.K.Ord.cmp} c.args.found.now.entries) c.args.old.now.key v) (c.value_if-before.ensures ∙ ap (λ b. restorable b c.args.old.now.value) c.was_there.ensures)
