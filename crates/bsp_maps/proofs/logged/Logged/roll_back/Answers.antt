use Rattle.std.proofs.Common.{sym, ap, ◌∙◌}
use Rattle.bsp_maps.specs.Undo.{undone, content}
use Rattle.bsp_maps.proofs.UndoLemmas.{popped}
use Rattle.bsp_maps.proofs.logged.Logged.roll_back.Goals as goal

pub loop-old-preserved : goal.loop-old-preserved
loop-old-preserved g c =
    ap (λ u. undone u.items (content g.K.Ord.cmp c.restore.new.self)) c.restore.ensures.undo
    ∙ ap (undone c.pop.new.self.items) c.restore.ensures.content
    ∙ sym (popped c.loop-old.self.undo.items c.pop.new.self.items c.pop.result c.in-Some.old (content g.K.Ord.cmp c.loop-old.self) c.in-Some.is c.pop.ensures.items)
    ∙ c.loop-old.invariant
