use Rattle.std.proofs.Common.{take, refl, ap, ◌∙◌, arith}
use Rattle.bsp_check.specs.Windows.{text_of, last_of}
use Rattle.bsp_check.proofs.WindowLemmas.{moved, fills_on}
use Rattle.bsp_check.proofs.window.Window.advance.Goals as goal

pub returns-clause-filled : goal.returns-clause-filled
returns-clause-filled g c =
    let w = c.args.self.now in
    let kept = c.args.kept in
    fills_on (take kept c.copy_within.new.self.items) (last_of kept (text_of w)) w _ c.fill.new.self _ _ c.fill.result
    (ap (take kept) c.copy_within.ensures.items ∙ moved w.room.items w.filled kept (omega (arith, c.requires.window.filled, c.requires.window.wide)) c.requires.kept) refl refl c.fill.ensures.filled
