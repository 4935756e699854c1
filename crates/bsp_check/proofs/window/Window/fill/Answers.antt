use Rattle.bsp_check.specs.Windows.{text_of}
use Rattle.bsp_check.proofs.WindowLemmas.{reads_none, too_long}
use Rattle.bsp_check.proofs.window.Window.fill.Goals as goal

pub loop-self-init : goal.loop-self-init
loop-self-init g c = record { reads = reads_none c.args.self.now _ c.requires.window c.requires.end }

pub returns-then-self-eq0-clause-stopped : goal.returns-then-self-eq0-clause-stopped
returns-then-self-eq0-clause-stopped g c = too_long (text_of c.args.self.now) _ c.loop-self.self _ _ c.loop-self.invariant.reads c.if-self-eq0.true

pub read_more-requires-clause-window : goal.read_more-requires-clause-window
read_more-requires-clause-window g c = c.loop-self.invariant.reads.window
